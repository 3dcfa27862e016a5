-- Any order, and taking away, of functions that are run: each step of a run is a function's own contract, held between entry and exit.
-- A run leaves what its calls leave, and the rest is in Reverse and Stains. Called has the public functions, Linked those that people link.
use Rattle.std.specs.Prelude.{Ok, Err}
use mathlib.Core.Path.{◌≡◌, refl, sym, ap, ap₂, ◌∙◌}
use mathlib.Core.Bool.{Bool, true, false, cond, not}
use mathlib.Core.List.{List, [], ◌∷◌, ◌++◌, map, zip, zip_with, Permᴰ, Mem}
use Prim.Native.Nat.{ℕ, ◌+◌, ◌*◌, ◌/◌, ◌%◌, ◌≤◌}
use native.Mathlib.Omega.{arith}
use native.Mathlib.Nat.{zero-add}
use lib.IntN.{ℤ}
use lib.ListN.{length, get_or}
use contract.Lifetimes.{Lfts}
use denote.Triple.Clauses.{AtExit}
use borrow.Fn.Kinds.{ParamKind, ResultKind, Dens, GoodsP, Out, res_t, ended_of}
use Rattle.words.specs.declared.Color.{Color}
use Rattle.words.specs.Format.{Format, rgb332, rgb565, rgb8, argb, abgr, none, range}
use Rattle.words.specs.Ink.{keeps_alpha, settled}
use Rattle.words.specs.Word.{to_color, color, level5, level6}
use Rattle.pixels.specs.declared.Canvas.{Canvas}
use Rattle.canvas.specs.declared.Clip.{Clip}
use Rattle.canvas.specs.declared.Refusal.{Refusal}
use Rattle.pixels.specs.Bytes.{form, load_at, Tail, On}
use Rattle.pixels.specs.Hits.{Hit, paint}
use Rattle.canvas.specs.Faults.{Verdict, rule_fault, or_else, verdict}
use Rattle.canvas.specs.Plot.{hits}
use Rattle.canvas.specs.Call.{Call, clip_of, fault_of, plots, Outcome, Landed, status_of, count_of, leaves, ruled, drawing, call}
use Rattle.images.specs.Areas.{copy_area}
use Rattle.canvas.specs.Calls.{after, landings, stains, struck, those, inverts}
use Rattle.pixels.proofs.bytes.Cells.{Bytes}
use Rattle.pixels.proofs.Hits.{paint-length}
use Rattle.canvas.proofs.Reverse.{Colored, Fine, end, then}
use Rattle.canvas.proofs.Reverse as reverse
use Rattle.canvas.proofs.Stains as stain
use Rattle.canvas.proofs.Tails.{tails-after}
use Rattle.canvas.proofs.Pictures.{rowed, Alike, same-landed, after_alike}
use Rattle.canvas.proofs.Rules.{ruled_by, with_xor, verdict-ruled, hits_unasked, after_unasked}
use Rattle.canvas.proofs.plot.Sides.{Sided, AllSided, no_call, one-call}

-- ---- a function that was run

-- A function of these parameters, this result and this contract was given a, and gave back d with s for the parameters at
-- exit: a are values that a caller can own, so each number has the range of its type; and the contract holds.
pub record Ran {n : ℕ} (ps : List (ParamKind n)) (z : ResultKind n) (Post : Out n ps z) (κs : Lfts n) (a : Dens κs ps) (d : (res_t z κs).Denot) (s : AtExit (ended_of n ps z) κs) : Type 0 where
  pub owned : GoodsP κs ps a
  pub post : Post κs a d s

-- ---- the answer to a call on n bytes

abbrev said : Verdict → ℕ → Landed
said (Ok u) t = Ok (record { landed = t })
said (Err r) t = Err r

abbrev pub answer : Canvas → ℕ → Call → Landed
answer v n k = said (or_else (verdict v n) (fault_of k)) (length (hits v (clip_of k) (plots v k)))

answered : (f : Verdict) (t : ℕ) (p b : List ℕ) → ruled f t p b ≡ leaves (said f t) (ruled f t p b).bytes
unfolding status_of count_of
answered (Ok u) t p b = refl
answered (Err r) t p b = refl

pub call_answers : (v : Canvas) (k : Call) (b : List ℕ) → call v k b ≡ leaves (answer v (length b) k) (call v k b).bytes
unfolding drawing
call_answers v k b =
    let hs : List Hit = hits v (clip_of k) (plots v k) in
    answered (or_else (verdict v (length b)) (fault_of k)) (length hs) (paint v hs b) b

ruled-length : (f : Verdict) (t : ℕ) (p b : List ℕ) → length p ≡ length b → length (ruled f t p b).bytes ≡ length b
ruled-length (Ok u) t p b e = e
ruled-length (Err r) t p b e = refl

call_length : (v : Canvas) (k : Call) (b : List ℕ) → length (call v k b).bytes ≡ length b
unfolding drawing
call_length v k b =
    let hs : List Hit = hits v (clip_of k) (plots v k) in
    ruled-length (or_else (verdict v (length b)) (fault_of k)) (length hs) (paint v hs b) b (paint-length v hs b)

-- ---- functions that make calls

-- the arguments of an area copy
pub record Copy : Type 0 where
  pub dx : ℤ
  pub dy : ℤ
  pub sx : ℤ
  pub sy : ℤ
  pub w : ℕ
  pub h : ℕ
  pub clip : Clip

abbrev pub copy : Canvas → Copy → List ℕ → Outcome
copy v k b = copy_area v k.dx k.dy k.sx k.sy k.w k.h k.clip b

-- `Made v k b a b'`: on the canvas v with b in the bytes lent, the function of the call k was given the arguments of k, answered a and
-- left b'. It leaves what the call leaves and tells the call's answer, the colours it was given are of bytes, and shapes look
-- at the sides alone.
-- `Copied` is the same of area copy, which is no call that a second one takes away.
pub record Maker : Type 1 where
  pub Answer : Type 0
  pub tell : Landed → Answer
  pub Made : Canvas → Call → List ℕ → Answer → List ℕ → Type 0
  pub leaving : {v : Canvas} {k : Call} {b b' : List ℕ} {a : Answer} → Made v k b a b' → b' ≡ (call v k b).bytes
  pub telling : {v : Canvas} {k : Call} {b b' : List ℕ} {a : Answer} → Made v k b a b' → a ≡ tell (answer v (length b) k)
  pub colored : {v : Canvas} {k : Call} {b b' : List ℕ} {a : Answer} → Made v k b a b' → Colored k
  pub sided : {v : Canvas} {k : Call} {b b' : List ℕ} {a : Answer} → Made v k b a b' → Sided k
  pub Copied : Canvas → Copy → List ℕ → List ℕ → Type 0
  pub copying : {v : Canvas} {k : Copy} {b b' : List ℕ} → Copied v k b b' → b' ≡ (copy v k b).bytes

-- ---- calls one after the other

pub data Run (M : Maker) (v : Canvas) : List Call → List ℕ → List M.Answer → List ℕ → Type 0 where
  stop : {b : List ℕ} → Run M v [] b [] b
  go_on : {k : Call} {ks : List Call} {b b' b'' : List ℕ} {a : M.Answer} {ds : List M.Answer} → M.Made v k b a b' → Run M v ks b' ds b''
      → Run M v (k ∷ ks) b (a ∷ ds) b''

module _ {M : Maker} {v : Canvas} where
  pub run-append : {ks ls : List Call} {b b' b'' : List ℕ} {ds es : List M.Answer} → Run M v ks b ds b' → Run M v ls b' es b'' → Run M v (ks ++ ls) b (ds ++ es) b''
  run-append stop q = q
  run-append (go_on m p) q = go_on m (run-append p q)

  run_is : {ks : List Call} {b b' : List ℕ} {ds : List M.Answer} → Run M v ks b ds b' → b' ≡ after v ks b
  unfolding after
  run_is stop = refl
  run_is (go_on {ks = ks} m p) = run_is p ∙ ap (after v ks) (M.leaving m)

  fine : {ks : List Call} {b b' : List ℕ} {ds : List M.Answer} → Run M v ks b ds b' → Fine ks
  fine stop = end
  fine (go_on m p) = then (M.colored m) (fine p)

  run_answers : {ks : List Call} {b b' : List ℕ} {ds : List M.Answer} → Run M v ks b ds b' → ds ≡ map (λ k. M.tell (answer v (length b) k)) ks
  run_answers stop = refl
  run_answers (go_on {k = k} {ks = ks} {b = b} m p) =
      ap₂ (λ (a : M.Answer) (ds : List M.Answer). a ∷ ds) (M.telling m)
      (run_answers p ∙ ap (λ (n : ℕ). map (λ j. M.tell (answer v n j)) ks) (ap length (M.leaving m) ∙ call_length v k b))

answers_perm : {A : Type 0} (f : Call → A) {ks ls : List Call} → Permᴰ ks ls → Permᴰ (zip ks (map f ks)) (zip ls (map f ls))
unfolding zip zip_with
answers_perm f Permᴰ.nil = Permᴰ.nil
answers_perm f (Permᴰ.cons e p) = Permᴰ.cons (ap (λ (k : Call). (k, f k)) e) (answers_perm f p)
answers_perm f (Permᴰ.swap d e) = Permᴰ.swap (ap (λ (k : Call). (k, f k)) d) (ap (λ (k : Call). (k, f k)) e)
answers_perm f (Permᴰ.trans p q) = Permᴰ.trans (answers_perm f p) (answers_perm f q)

-- ---- colours

abbrev pub seen_at : Canvas → List ℕ → ℕ → ℕ → Color
seen_at v b x y = to_color (form v) (load_at v b x y)

abbrev pub opaque : Color → Color
opaque c = color 255 c.r c.g c.b

same-color : (a r g b a' r' g' b' : ℕ) → a ≡ a' → r ≡ r' → g ≡ g' → b ≡ b' → color a r g b ≡ color a' r' g' b'
same-color a r g b a' r' g' b' p q s t = cc

-- a settled word reads opaque where alpha is kept, and as before where it is not
settled_opaque : (f : Format) (w : ℕ) → keeps_alpha f ≡ true → to_color f (settled f w) ≡ opaque (to_color f w)
unfolding settled to_color keeps_alpha
settled_opaque argb w e = same-color _ _ _ _ _ _ _ _ (omega arith) (omega arith) (omega arith) (omega arith)
settled_opaque abgr w e = same-color _ _ _ _ _ _ _ _ (omega arith) (omega arith) (omega arith) (omega arith)
settled_opaque rgb332 w e = cc
settled_opaque rgb565 w e = cc
settled_opaque rgb8 w e = cc
settled_opaque none w e = cc

settled-reads : (f : Format) (w : ℕ) → keeps_alpha f ≡ false → to_color f (settled f w) ≡ to_color f w
unfolding settled to_color keeps_alpha
settled-reads rgb332 w e = same-color _ _ _ _ _ _ _ _ refl (omega arith) (omega arith) (omega arith)
settled-reads rgb565 w e =
    let r : (0 * 16777216 + w % 16777216) / 2048 % 32 ≡ w / 2048 % 32 = omega arith in
    let g : (0 * 16777216 + w % 16777216) / 32 % 64 ≡ w / 32 % 64 = omega arith in
    let b : (0 * 16777216 + w % 16777216) % 32 ≡ w % 32 = omega arith in
    same-color _ _ _ _ _ _ _ _ refl (ap level5 r) (ap level6 g) (ap level5 b)
settled-reads rgb8 w e = same-color _ _ _ _ _ _ _ _ refl (omega arith) (omega arith) (omega arith)
settled-reads argb w e = cc
settled-reads abgr w e = cc
settled-reads none w e = refl

-- ---- the theorems

-- `Bytes b`, that the first bytes are below 256, holds of every slice of bytes that can be lent; a contract's reading does not say it of a
-- slice's elements, so it is asked here.
module _ (M : Maker) {v : Canvas} {ks ls : List Call} {b b' b'' : List ℕ} {ds es : List M.Answer} where
  -- two runs from the same bytes, in two orders, with XOR on: equal bytes
  pub same_bytes : v.xor ≡ true → Bytes b → Permᴰ ks ls → Run M v ks b ds b' → Run M v ls b es b'' → b' ≡ b''
  same_bytes x o s p q = run_is p ∙ reverse.any_order v ks ls b x o (fine p) s ∙ sym (run_is q)

  -- and the calls with their answers are the same, but for the order; with XOR on or off
  pub same_answers : Permᴰ ks ls → Run M v ks b ds b' → Run M v ls b es b'' → Permᴰ (zip ks ds) (zip ls es)
  same_answers s p q = rw (run_answers p, run_answers q) (answers_perm (λ k. M.tell (answer v (length b) k)) s)

  -- a run and then another, in any order, with XOR on
  module _ (x : v.xor ≡ true) (o : Bytes b) (s : Permᴰ ks ls) (p : Run M v ks b ds b') (q : Run M v ls b' es b'') where
    -- on a canvas that is not refused: the first bytes with the stains of the list
    pub stained : verdict v (length b) ≡ Ok tt → b'' ≡ paint v (stains v ks) b
    stained e = run_is (run-append p q) ∙ stain.stained v ks ls b x o e (fine p) s

    -- the word at every pixel
    pub words_back : verdict v (length b) ≡ Ok tt → (i j : ℕ) → On v i j
        → load_at v b'' i j ≡ cond (struck (stains v ks) i j) (settled (form v) (load_at v b i j)) (load_at v b i j)
    words_back e i j on = ap (λ (c : List ℕ). load_at v c i j) (run_is (run-append p q)) ∙ stain.words_back v ks ls b x o e (fine p) s i j on

    -- where alpha is kept, its colour: the first one, but that alpha is 255 where a point of an alpha other than 0 landed
    pub colors_back : keeps_alpha (form v) ≡ true → verdict v (length b) ≡ Ok tt → (i j : ℕ) → On v i j
        → seen_at v b'' i j ≡ cond (struck (stains v ks) i j) (opaque (seen_at v b i j)) (seen_at v b i j)
    colors_back a e i j on = ap (to_color (form v)) (words_back e i j on) ∙ go (struck (stains v ks) i j)
      where
        go : (t : Bool) → to_color (form v) (cond t (settled (form v) (load_at v b i j)) (load_at v b i j)) ≡ cond t (opaque (seen_at v b i j)) (seen_at v b i j)
        go true = settled_opaque (form v) (load_at v b i j) a
        go false = refl

    -- where it is not, the first colour
    pub same_colors : keeps_alpha (form v) ≡ false → verdict v (length b) ≡ Ok tt → (i j : ℕ) → On v i j → seen_at v b'' i j ≡ seen_at v b i j
    same_colors a e i j on = ap (to_color (form v)) (words_back e i j on) ∙ go (struck (stains v ks) i j)
      where
        go : (t : Bool) → to_color (form v) (cond t (settled (form v) (load_at v b i j)) (load_at v b i j)) ≡ seen_at v b i j
        go true = settled-reads (form v) (load_at v b i j) a
        go false = refl

    -- of Rgb8, the word: the first one, but that the top byte is 0 where an inversion landed
    pub tops_cleared : form v ≡ rgb8 → verdict v (length b) ≡ Ok tt → (i j : ℕ) → On v i j
        → load_at v b'' i j ≡ cond (struck (landings v (those inverts ks)) i j) (load_at v b i j % 16777216) (load_at v b i j)
    unfolding settled keeps_alpha
    tops_cleared f e i j on =
        words_back e i j on
        ∙ ap₂ (λ (t : Bool) (n : ℕ). cond t n (load_at v b i j)) (stain.by_inversions v ks i j (ap keeps_alpha f))
        (ap (λ (t : Format). settled t (load_at v b i j)) f ∙ zero-add (load_at v b i j % 16777216))

    -- where alpha is kept, the word of a pixel on which inversions alone landed, or nothing: the first one
    pub under_inversions : keeps_alpha (form v) ≡ true → verdict v (length b) ≡ Ok tt → (i j : ℕ) → On v i j
        → struck (landings v (those (λ k. not (inverts k)) ks)) i j ≡ false → load_at v b'' i j ≡ load_at v b i j
    under_inversions a e i j on z =
        words_back e i j on ∙ ap (λ (t : Bool). cond t (settled (form v) (load_at v b i j)) (load_at v b i j)) (stain.by_drawings v ks i j a z)

    -- on any canvas, the first bytes: where words have no top byte;
    pub narrow_back : range (form v) ≤ 16777216 → b'' ≡ b
    narrow_back l = run_is (run-append p q) ∙ stain.narrow_back v ks ls b x o (fine p) s l

    unstained : ((k : Call) → Mem k ks → inverts k ≡ keeps_alpha (form v)) → b'' ≡ b
    unstained n = run_is (run-append p q) ∙ stain.unstained_back v ks ls b x o (fine p) s (stain.unstained v ks n)

    -- where alpha is not kept and no call inverts;
    pub taken_away : keeps_alpha (form v) ≡ false → ((k : Call) → Mem k ks → inverts k ≡ false) → b'' ≡ b
    taken_away a n = unstained (λ k m. n k m ∙ sym a)

    -- and where it is kept and every call does
    pub inversions_back : keeps_alpha (form v) ≡ true → ((k : Call) → Mem k ks → inverts k ≡ true) → b'' ≡ b
    inversions_back a n = unstained (λ k m. n k m ∙ sym a)

-- the bytes of the tails, in every format: of one run, and so of two, with XOR on or off
pub tails_back : (M : Maker) {v : Canvas} {ks : List Call} {b b' : List ℕ} {ds : List M.Answer} → Run M v ks b ds b' → (o : ℕ) → Tail v o → get_or b' o 0 ≡ get_or b o 0
tails_back M {v} {ks} {b} p o t = ap (λ (c : List ℕ). get_or c o 0) (run_is p) ∙ tails-after v ks b o t

-- two runs of the same calls on canvases that differ in the row alone, from bytes that show the same, with XOR on or off: the same answers,
-- and bytes that show the same. So a canvas with tails is drawn on as its visible part is.
module _ (M : Maker) (v : Canvas) (r : ℕ) where
  looks : {ks : List Call} {b b' : List ℕ} {ds : List M.Answer} → Run M v ks b ds b' → AllSided ks
  looks stop = no_call
  looks (go_on m p) = one-call (M.sided m) (looks p)

  told_alike : (b t : List ℕ) → verdict v (length b) ≡ Ok tt → verdict (rowed v r) (length t) ≡ Ok tt → (ks : List Call) → AllSided ks
      → map (λ k. M.tell (answer v (length b) k)) ks ≡ map (λ k. M.tell (answer (rowed v r) (length t) k)) ks
  told_alike b t f g [] no_call = refl
  told_alike b t f g (k ∷ ks) (one-call e es) =
      let z = same-landed v r b t f g k e in
      ap₂ (λ (a : M.Answer) (l : List M.Answer). a ∷ l) (ap M.tell (sym (ap₂ said z.0 z.1))) (told_alike b t f g ks es)

  pub same-picture : {ks : List Call} {b b' t t' : List ℕ} {ds es : List M.Answer} → Bytes b → Bytes t → verdict v (length b) ≡ Ok tt → verdict (rowed v r) (length t) ≡ Ok tt
      → Alike v b (rowed v r) t → Run M v ks b ds b' → Run M (rowed v r) ks t es t' → (ds ≡ es) × Alike v b' (rowed v r) t'
  same-picture {ks} {b} {b'} {t} {t'} o i f g a p q = (
    run_answers p ∙ told_alike b t f g ks (looks p) ∙ sym (run_answers q),
    rw (run_is p, run_is q) (after_alike v r b t f g ks o i (fine p) (looks p) a),
  )

-- two runs of the same calls with XOR on, on canvases that differ in the rule alone, which RULE refuses both or neither: the same answers,
-- and the same bytes
module _ (M : Maker) (v : Canvas) (r : ℕ) (same : rule_fault (ruled_by v r) ≡ rule_fault v) (x : v.xor ≡ true) where
  told_by_rules :
      (n : ℕ) (ks : List Call) → AllSided ks → map (λ k. M.tell (answer (ruled_by v r) n k)) ks ≡ map (λ k. M.tell (answer v n k)) ks
  told_by_rules n [] no_call = refl
  told_by_rules n (k ∷ ks) (one-call s ss) =
      ap₂ (λ (a : M.Answer) (l : List M.Answer). a ∷ l)
      (ap M.tell (ap₂ (λ (d : Verdict) (hs : List Hit). said (or_else d (fault_of k)) (length hs)) (verdict-ruled v r same n) (hits_unasked v r same k s (with_xor v k x))))
      (told_by_rules n ks ss)

  pub same_by_rules : {ks : List Call} {b b' c' : List ℕ} {ds es : List M.Answer} → Run M v ks b ds b' → Run M (ruled_by v r) ks b es c' → (ds ≡ es) × (b' ≡ c')
  same_by_rules {ks} {b} p q =
      let s = looks M v r p in
      (run_answers p ∙ sym (told_by_rules (length b) ks s) ∙ sym (run_answers q), run_is p ∙ sym (after_unasked v r same ks b x s) ∙ sym (run_is q))

-- on a canvas that is refused, for any run, and so for two: every answer is that refusal, and the bytes are as before
pub all_refused : (M : Maker) {v : Canvas} {ks : List Call} {b b' : List ℕ} {ds : List M.Answer} {r : Refusal} → verdict v (length b) ≡ Err r → Run M v ks b ds b'
    → (ds ≡ map (λ k. M.tell (Err r)) ks) × (b' ≡ b)
unfolding or_else
all_refused M {v} {ks} {b} {r = r} e p = (
  run_answers p ∙ ap (λ (f : Verdict). map (λ k. M.tell (said (or_else f (fault_of k)) (length (hits v (clip_of k) (plots v k))))) ks) e,
  run_is p ∙ reverse.after_faulty v ks b r e,
)
