-- From the verdict on a file to what judging and decoding answer.
use mathlib.Core.Path.{◌≡◌, refl, sym, ap, ap₂, ◌∙◌}
use mathlib.Core.List.{List, ◌++◌}
use Rattle.std.specs.Prelude.{Ok, Err}
use Prim.Native.Nat.{ℕ, ◌*◌, ◌<◌, ◌≤◌}
use native.Mathlib.Omega.{arith}
use borrow.Author.Tests.{lt-ltb, le-ltb}
use lib.ListN.{length, drop}
use Rattle.lbmp.specs.declared.Refusal.{Refusal}
use Rattle.lbmp.specs.declared.Refusal.TheVariants.{Invalid, BadType, Room}
use Rattle.lbmp.specs.declared.Image.{Image}
use Rattle.lbmp.specs.declared.header.Header.{Header}
use Rattle.lbmp.specs.File.{header_of, mask_bytes}
use Rattle.lbmp.specs.Faults.{Verdict, sound, number, or_else, verdict, room_fault}
use Rattle.lbmp.specs.Image.{pixels, image, clear_in, clear_of}
use Rattle.lbmp.specs.Call.{Reading, reading, reads, reading_of, ruled, judgement, outcome, decoded, decoding}

pub no_zero : (r : Refusal) → number r ≡ 0 → ⊥
unfolding number
no_zero Invalid e = omega arith
no_zero BadType e = omega arith
no_zero Room e = omega arith

-- ---- judging

pub refuses : (f : List ℕ) (v : Verdict) (r : Refusal) → v ≡ verdict f → v ≡ Err r → reads (Err r) ≡ judgement f
unfolding judgement reads
refuses f v r e g = sym (ap (λ (k : Verdict). ruled k f) (sym e ∙ g))

pub accepts : (f : List ℕ) (v : Verdict) (h : Header) (m : List ℕ) (n : ℕ) → v ≡ verdict f → v ≡ sound → h ≡ header_of f → m ≡ mask_bytes f
    → n ≡ clear_in m h.width (h.width * h.height) → reads (Ok (record { width = h.width; height = h.height; clear = n })) ≡ judgement f
unfolding judgement reads clear_of
accepts f v h m n e g eh em en =
    let c : n ≡ clear_of f = en ∙ ap₂ (λ (l : List ℕ) (k : Header). clear_in l k.width (k.width * k.height)) em eh in
    ap₂ (λ (k : Header) (i : ℕ). reading 0 k.width k.height i) eh c ∙ sym (ap (λ (k : Verdict). ruled k f) (sym e ∙ g))

-- ---- decoding

-- What is judged sound is sound, and its sides are the header's.
ruled_sound : (f : List ℕ) (i : Image) (v : Verdict) → reads (Ok i) ≡ ruled v f → (v ≡ sound) × (reads (Ok i) ≡ reading_of f)
unfolding reads
ruled_sound f i (Ok u) e = (refl, e)
ruled_sound f i (Err r) e = absurd (no_zero r (sym (ap (λ (k : Reading). k.status) e)))

pub judged_sound : (f : List ℕ) (i : Image) → reads (Ok i) ≡ judgement f → (verdict f ≡ sound) × (reads (Ok i) ≡ reading_of f)
unfolding judgement
judged_sound f i e = ruled_sound f i (verdict f) e

pub its_pixels : (f : List ℕ) (i : Image) → reads (Ok i) ≡ reading_of f → i.width * i.height ≡ pixels f
unfolding reads
its_pixels f i e = ap₂ (λ (a b : ℕ). a * b) (ap (λ (k : Reading). k.width) e) (ap (λ (k : Reading). k.height) e)

pub decode_refused : (f out : List ℕ) (r : Refusal) → reads (Err r) ≡ judgement f → outcome (reads (Err r)) out ≡ decoding f out
unfolding decoding judgement reads or_else
decode_refused f out r e = by (verdict f) e
  where
    by : (v : Verdict) → reads (Err r) ≡ ruled v f → outcome (reads (Err r)) out ≡ decoded (or_else v (room_fault (header_of f) (length out))) f out
    by (Ok u) q = absurd (no_zero r (ap (λ (k : Reading). k.status) q))
    by (Err s) q = ap (λ (k : Reading). outcome k out) q

pub decode_room : (f out : List ℕ) → verdict f ≡ sound → length out < pixels f → outcome (reads (Err Room)) out ≡ decoding f out
unfolding decoding room_fault or_else reads
decode_room f out e l = rw (e, lt-ltb _ _ l) refl

pub decode_sound : (f out out' : List ℕ) (i : Image) → verdict f ≡ sound → reads (Ok i) ≡ reading_of f → pixels f ≤ length out
    → out' ≡ image f ++ drop (pixels f) out → outcome (reads (Ok i)) out' ≡ decoding f out
unfolding decoding room_fault or_else
decode_sound f out out' i e q l g = rw (e, le-ltb _ _ l) (ap₂ outcome q g)
