-- What answers a case, and what it leaves.
use Rattle.std.specs.Prelude.{cond, ◌||◌, List, ◌++◌, ℕ, ◌-◌, ◌*◌, eqb, take, drop, Option, Some, None}
use Rattle.words.specs.declared.Color.{Color}
use Rattle.words.specs.Format.{argb}
use Rattle.words.specs.Word.{from_color}
use Rattle.pixels.specs.declared.Canvas.{Canvas}
use Rattle.canvas.specs.Call.{Outcome}
use Rattle.canvas.specs.Look.{Reading, pixel_at}
use Rattle.lbmp.specs.Call.{decoding, Outcome as Decoded}
use Rattle.res.specs.Search.{first_icon, icon_pixels, reads}
use Rattle.cases.specs.declared.case.Case.{Case}
use Rattle.cases.specs.declared.answer.Answer.{Answer}
use Rattle.cases.specs.declared.answer.Found.{Found}
use Rattle.cases.specs.declared.answer.Found.TheVariants as found
use Rattle.cases.specs.Hash.{hash_of, all_bytes}
use Rattle.cases.specs.Ops as op
use Rattle.replies.specs.Numbers.{word_at, int_at, color_at, clip_at, canvas_at, clip_start}
use Rattle.replies.specs.Calls.{drawn_by}

abbrev pub answer : ℕ → ℕ → Found → ℕ → Answer
answer o s f h = record { name = o; status = s; found = f; hash = h }

-- "`OP status=N count=N hash=H`, H being the 64-bit FNV-1a of the final bytes"
abbrev pub told : ℕ → ℕ → ℕ → ℕ → Answer
told o s n h = answer o s (found.Count n) h

unfoldable pub counted : ℕ → Outcome → Answer
counted o r = told o r.status r.count (hash_of r.bytes)

-- "`get` has `argb=N` in the place of count, or `none`."
unfoldable pub argb_of : Option Color → Found
argb_of None = found.Nothing
argb_of (Some c) = found.Argb (from_color argb c)

abbrev pub looked : Reading → ℕ → Answer
looked r h = answer op.get r.status (argb_of r.color) h

-- A drawing's answer, and the bytes that it leaves.
abbrev pub drew : ℕ → Outcome → Answer × List ℕ
drew o r = (counted o r, r.bytes)

-- "`lbmp` has `w=N h=N clear=N` in the place of count", and the hash is "of the words written"
unfoldable pub decoded : Decoded → Answer
decoded d =
    let r = d.answer in
    answer op.lbmp r.status (found.Image r.width r.height r.clear) (hash_of (all_bytes (take (r.width * r.height) d.words)))

abbrev pub decoded_by : Decoded → Answer × List ℕ
decoded_by d = (decoded d, d.words)

-- "ROOM HEX: the number of words lent, and the file's bytes"; no more words than there are.
unfoldable pub bitmap_of : ℕ → List ℕ → List ℕ → Answer × List ℕ
bitmap_of room file ws = let d = decoding file (take room ws) in (decoded d, d.words ++ drop room ws)

-- "at being where the part starts in the file (0 where it is empty)"
unfoldable pub start_of : ℕ → ℕ → ℕ → ℕ
start_of at w h = cond (eqb w 0 || eqb h 0) 0 at

-- "`res status=N w=N h=N at=N hash=H`, .. H the hash of the part"
unfoldable pub icon_of : List ℕ → Answer
icon_of f =
    let i = reads (first_icon f) in
    answer op.res i.status (found.Icon i.width i.height (start_of i.start i.width i.height)) (hash_of (icon_pixels f))

-- The drawing call of a case, with the colour and the clip that stand behind the op's own numbers.
unfoldable pub drawn : ℕ → List ℕ → Canvas → List ℕ → List ℕ → Outcome
drawn o n v image b = drawn_by o n v (color_at n (clip_start o - 4)) (clip_at n (clip_start o)) image b

-- An answer, and what the canvas's bytes and the words hold then.
pub record Response : Type 0 where
  pub answer : Answer
  pub bytes : List ℕ
  pub words : List ℕ

abbrev pub response : Answer → List ℕ → List ℕ → Response
response a b ws = record { answer = a; bytes = b; words = ws }

-- Of the bytes of a case, its image or file, and the words lent: an op, its numbers and its canvas.
unfoldable pub respond_by : ℕ → List ℕ → Canvas → List ℕ → List ℕ → List ℕ → Response
respond_by o n v b file ws =
    cond (eqb o op.get) (response (looked (pixel_at v b (int_at n 0) (int_at n 1)) (hash_of b)) b ws)
    (cond (eqb o op.lbmp) (let d = bitmap_of (word_at n 0) file ws in response d.0 b d.1)
    (cond (eqb o op.res) (response (icon_of file) b ws)
    (let d = drawn o n v file b in response (counted o d) d.bytes ws)))

-- The canvas of a case: "F W H X", with row and rule right after SEED, and "X: 1 for XOR on"
unfoldable pub respond_to : Case → List ℕ → List ℕ → List ℕ → Response
respond_to c b file ws = respond_by c.name c.args (canvas_at c.head 0 5 (eqb (word_at c.head 3) 1)) b file ws
