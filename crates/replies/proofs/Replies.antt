-- From the parts of a line to its reply.
use mathlib.Core.Bool.{Bool, true, false, cond}
use mathlib.Core.List.{List, [], ◌∷◌, ◌++◌}
use mathlib.Core.Path.{◌≡◌, refl, sym, ap, ◌∙◌}
use Prim.Native.Nat.{ℕ, ◌+◌, ◌-◌, ◌<◌, ◌≤◌}
use native.Mathlib.Omega.{arith}
use native.Mathlib.Numerals.{unary_clauses}
use lib.Dec.{eqb, ltb}
use lib.ListN.{length, take, drop, get_or}
use borrow.Author.Tests.{lt-ltb, le-ltb, ltb-false}
use Rattle.std.specs.Prelude.{Option, Some, None, MatchOption, unwrap_or}
use Rattle.std.specs.Borrow.{Bor}
use Rattle.std.specs.Cmp.Lexicographic.{pointwise}
use Rattle.std.proofs.Math.Bool.{and-true}
use Rattle.cases.specs.declared.case.Case.{Case}
use Rattle.cases.specs.declared.answer.Answer.{Answer}
use Rattle.cases.specs.Case.{no_case, known, case_of}
use Rattle.cases.specs.Line.{words_of, first_word, other_words, after, next, or_else, first_of}
use Rattle.cases.specs.Number.{natural, number_of, behind, named_of, numeric, name_of}
use Rattle.cases.specs.Seed.{seed_of}
use Rattle.cases.specs.Row.{row_of, numbered, seeded, row_length, rule_number, word_of, arg_of, args_from, args_of}
use Rattle.cases.specs.Answer.{placed, answered}
use Rattle.cases.proofs.Texts.{answered-within}
use Rattle.replies.specs.Answers.{Response, response, respond_to}
use Rattle.replies.specs.Replies.{without_return, text_of, refused, Reply, reply, answered_by, reply_to, replied}

-- The last byte of a line, as the library compares it.
last_of : (b : ℕ) (s : List ℕ) → pointwise eqb (drop (length s) (b ∷ s)) (13 ∷ []) ≡ eqb (get_or (b ∷ s) (length s) 0) 13
last_of b [] = and-true (eqb b 13)
last_of b (c ∷ s) = last_of c s

last_is : (line : List ℕ) → pointwise eqb (drop (length line - 1) line) (13 ∷ []) ≡ eqb (get_or line (length line - 1) 0) 13
last_is [] = refl
last_is (b ∷ s) = simp unary_clauses (last_of b s)

a_return : (line : List ℕ) → pointwise eqb (drop (length line - 1) line) (13 ∷ []) ≡ true → take (length line - 1) line ≡ without_return line
unfolding without_return
a_return line h = rw (sym (last_is line) ∙ h)

no_return : (line : List ℕ) → pointwise eqb (drop (length line - 1) line) (13 ∷ []) ≡ false → line ≡ without_return line
unfolding without_return
no_return line h = rw (sym (last_is line) ∙ h)

pub stripped : (line : Bor (List ℕ)) (r : Option (Bor (List ℕ)))
    → MatchOption r (pointwise eqb (drop (length line.now - 1) line.now) (13 ∷ []) ≡ false)
    (λ x. (pointwise eqb (drop (length line.now - 1) line.now) (13 ∷ []) ≡ true) × (x.now ≡ take (length line.now - 1) line.now)
    × (length x.now + 1 ≡ length line.now))
    → (unwrap_or r line).now ≡ without_return line.now
stripped line None m = no_return line.now m
stripped line (Some x) m = m.1 ∙ a_return line.now m.0

pub too_long : (line t : List ℕ) → t ≡ without_return line → 65536 < length t → [] ≡ text_of line
unfolding text_of
too_long line t e h = rw (← e, lt-ltb 65536 (length t) h)

pub short : (line t : List ℕ) → t ≡ without_return line → length t ≤ 65536 → t ≡ text_of line
unfolding text_of
short line t e h = rw (← e, le-ltb 65536 (length t) h)

module _ {r : ℕ} {out' b' i' : List ℕ} (line b i ws out : List ℕ) where
  pub refused-is : (None, b', i') ≡ case_of (text_of line) b i → (r, out') ≡ refused out → reply (r, out') b' i' ws ≡ replied line b i ws out
  unfolding replied reply_to
  refused-is h e = rw (← h) (ap (λ (a : ℕ × List ℕ). reply a b' i' ws) e)

  pub answered-is : {a : Answer} {b″ ws' : List ℕ} (c : Case) → (Some c, b', i') ≡ case_of (text_of line) b i
      → response a b″ ws' ≡ respond_to c (take c.bytes b') (take c.image i') ws → (r, out') ≡ answered a out
      → reply (r, out') (b″ ++ drop c.bytes b') i' ws' ≡ replied line b i ws out
  unfolding replied reply_to answered_by
  answered-is {b″} {ws'} c h e w =
      rw (← h)
      (ap (λ (a : ℕ × List ℕ). reply a (b″ ++ drop c.bytes b') i' ws') w ∙ ap (λ (x : Response). answered_by x c.bytes b' i' out) e)

-- What is copied over the first bytes stands there.
pub four_placed : (a b c d : ℕ) (out : List ℕ) → 4 ≤ length out → (a ∷ b ∷ c ∷ d ∷ []) ++ drop 4 out ≡ placed out 0 (a ∷ b ∷ c ∷ d ∷ [])
unfolding placed
four_placed a b c d (w ∷ x ∷ y ∷ z ∷ out) h = refl
four_placed a b c d (w ∷ x ∷ y ∷ []) h = absurd (omega arith)
four_placed a b c d (w ∷ x ∷ []) h = absurd (omega arith)
four_placed a b c d (w ∷ []) h = absurd (omega arith)
four_placed a b c d [] h = absurd (omega arith)

-- The answer's line is within out.
module _ (out : List ℕ) where
  refused_by : (q : Bool) → ltb (length out) 144 ≡ q → (cond {A = ℕ × List ℕ} q (0, out) (4, placed out 0 (98 ∷ 97 ∷ 100 ∷ 10 ∷ []))).0 ≤ length out
  refused_by true e = omega arith
  refused_by false e = omega (arith, ltb-false (length out) 144 e)

  refused-within : (refused out).0 ≤ length out
  unfolding refused
  refused-within = refused_by (ltb (length out) 144) refl

  reply_within : (c : Option Case) (b i ws : List ℕ) → (reply_to c b i ws out).long ≤ length out
  unfolding reply_to answered_by
  reply_within None b i ws = refused-within
  reply_within (Some c) b i ws = answered-within (respond_to c (take c.bytes b) (take c.image i) ws).answer out

  pub replied-within : {r : Reply} (line b i ws : List ℕ) → r ≡ replied line b i ws out → r.long ≤ length out
  unfolding replied
  replied-within line b i ws e =
      let x = case_of (text_of line) b i in
      rw (ap (λ (o : Reply). o.long) e) (reply_within x.0 x.1 x.2 ws)

-- An empty line is bad, and so is one that is too long.
pub empty_is_bad : (b i : List ℕ) → case_of [] b i ≡ (no_case, b, i)
unfolding case_of known args_of args_from arg_of numbered seeded word_of row_length rule_number named_of behind numeric number_of
    natural seed_of name_of next after or_else first_of words_of first_word other_words row_of
empty_is_bad b i = refl

pub long_is_bad : (line b i ws out : List ℕ) → 65536 < length (without_return line) → replied line b i ws out ≡ reply (refused out) b i ws
unfolding replied reply_to text_of
long_is_bad line b i ws out h = rw (lt-ltb 65536 (length (without_return line)) h, empty_is_bad b i)
