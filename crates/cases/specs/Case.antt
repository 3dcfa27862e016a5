-- "F W H X SEED OP ARGS.."
use Rattle.std.specs.Prelude.{cond, List, [], ◌∷◌, ◌++◌, ℕ, ◌+◌, ◌*◌, eqb, leb, length, drop, get_or, Option, Some, None}
use Rattle.words.specs.Format.{format_of, bytes_per_pixel}
use Rattle.cases.specs.Line.{Left, words, lost, Got, words_of}
use Rattle.cases.specs.Number.{name_of}
use Rattle.cases.specs.Row.{Args, head, row_of, args_of}
use Rattle.cases.specs.Seed.{Sown, zeros, counted, given, first_bytes}
use Rattle.cases.specs.declared.case.Case.{Case}
use Rattle.cases.specs.declared.ops.Kind.{Kind}

-- A canvas of a known format has its exact bytes: "row times height pixels".
unfoldable pub exactly : ℕ → ℕ → ℕ → Option ℕ
exactly f row h = let n = bytes_per_pixel (format_of f) in cond (eqb n 0) None (Some (row * h * n))

-- How many bytes are lent: those that hex gives, "which may have the wrong length"; else the canvas's.
unfoldable pub lent : ℕ → ℕ → ℕ → Sown → Option ℕ
lent f row h zeros = exactly f row h
lent f row h (counted s) = exactly f row h
lent f row h (given bs) = Some (length bs)

-- So many bytes, if there is room for them.
unfoldable pub fitting : ℕ → ℕ → Option ℕ
fitting room n = cond (leb n room) (Some n) None

unfoldable pub capped : ℕ → Option ℕ → Option ℕ
capped room (Some n) = fitting room n
capped room None = None

-- "exactly the words of its op"
unfoldable pub whole : {A : Type 0} → Left → A → A → A
whole (words []) a b = a
whole (words (w ∷ ws)) a b = b
whole lost a b = b

-- What reading a line answers, and leaves in the canvas's bytes and the image's.
abbrev pub Outcome : Type 0
Outcome = Option Case × List ℕ × List ℕ

abbrev pub no_case : Option Case
no_case = None

-- The first bytes of each stand at the start of the bytes lent; without room for them the case is bad, and what is lent
-- stays.
unfoldable pub laid : ℕ → Args → Args → Option ℕ → Option ℕ → List ℕ → List ℕ → Outcome
laid op h r (Some n) (Some m) bytes image = (
  Some (record { name = op; head = h.numbers; args = r.numbers; bytes = n; image = m }),
  first_bytes h.seed n ++ drop n bytes,
  first_bytes r.seed m ++ drop m image,
)
laid op h r (Some n) None bytes image = (no_case, bytes, image)
laid op h r None m bytes image = (no_case, bytes, image)

-- The seed's canvas is the format and sides that stand before it, F W H or SF SW SH from the word i on, and the row length
-- that stands behind it, the word j.
abbrev pub lent_at : ℕ → ℕ → ℕ → Args → Option ℕ
lent_at room i j g = capped room (lent (get_or g.numbers i 0) (get_or g.numbers j 0) (get_or g.numbers (i + 2) 0) g.seed)

-- The canvas is the head's, its row length the word 5; an image is draw's, its row length the word 8.
abbrev pub laid_out : ℕ → Args → Args → List ℕ → List ℕ → Outcome
laid_out op h r bytes image = laid op h r (lent_at (length bytes) 0 5 h) (lent_at (length image) 4 8 r) bytes image

unfoldable pub called : ℕ → Args → Got Args → List ℕ → List ℕ → Outcome
called op h r bytes image = whole r.left (laid_out op h r.value bytes image) (no_case, bytes, image)

-- What has no row is bad.
unfoldable pub known : {A : Type 0} → List Kind → A → A → A
known [] a b = b
known (k ∷ ks) a b = a

unfoldable pub case_of : List ℕ → List ℕ → List ℕ → Outcome
case_of line bytes image =
    let h = args_of head (words_of line) in
    let op = name_of h.left in
    let row = row_of op.value in
    known row (called op.value h.value (args_of row op.left) bytes image) (no_case, bytes, image)
