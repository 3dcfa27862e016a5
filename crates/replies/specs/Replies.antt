-- One line in, one line out.
use Rattle.std.specs.Prelude.{cond, List, [], ◌∷◌, ◌++◌, ℕ, ◌-◌, eqb, ltb, length, take, drop, get_or, Option, Some, None}
use Rattle.cases.specs.declared.case.Case.{Case}
use Rattle.cases.specs.Case.{case_of}
use Rattle.cases.specs.Answer.{placed, answered}
use Rattle.replies.specs.Answers.{Response, respond_to}

-- A line that ends in CR LF is read as without the CR.
unfoldable pub without_return : List ℕ → List ℕ
without_return line = cond (eqb (get_or line (length line - 1) 0) 13) (take (length line - 1) line) line

-- "at most 65,536 bytes without its end"; what is longer is read as an empty line, which is bad.
unfoldable pub text_of : List ℕ → List ℕ
text_of line = let t = without_return line in cond (ltb 65536 (length t)) [] t

-- "bad" and the line's end, where there is room for any answer.
unfoldable pub refused : List ℕ → ℕ × List ℕ
refused out = cond (ltb (length out) 144) (0, out) (4, placed out 0 (98 ∷ 97 ∷ 100 ∷ 10 ∷ []))

-- How long the answer's line is, and what everything that was lent holds then.
pub record Reply : Type 0 where
  pub long : ℕ
  pub out : List ℕ
  pub bytes : List ℕ
  pub image : List ℕ
  pub words : List ℕ

abbrev pub reply : ℕ × List ℕ → List ℕ → List ℕ → List ℕ → Reply
reply a b i ws = record { long = a.0; out = a.1; bytes = b; image = i; words = ws }

-- The call is made on the case's own bytes, which stand at the start of those lent.
unfoldable pub answered_by : Response → ℕ → List ℕ → List ℕ → List ℕ → Reply
answered_by r n b i out = reply (answered r.answer out) (r.bytes ++ drop n b) i r.words

-- The reply to a case: bad where the line can't be read.
unfoldable pub reply_to : Option Case → List ℕ → List ℕ → List ℕ → List ℕ → Reply
reply_to None b i ws out = reply (refused out) b i ws
reply_to (Some c) b i ws out = answered_by (respond_to c (take c.bytes b) (take c.image i) ws) c.bytes b i out

-- The reply to a line.
unfoldable pub replied : List ℕ → List ℕ → List ℕ → List ℕ → List ℕ → Reply
replied line b i ws out = let x = case_of (text_of line) b i in reply_to x.0 x.1 x.2 ws out
