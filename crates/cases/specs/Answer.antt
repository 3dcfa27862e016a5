-- "The answer is one line: `OP status=N count=N hash=H`"
use Rattle.std.specs.Prelude.{cond, List, [], ◌∷◌, ◌++◌, ℕ, zero, suc, ◌+◌, ◌/◌, ◌%◌, ltb, length, set}
use Rattle.cases.specs.declared.answer.Found.{Found}
use Rattle.cases.specs.declared.answer.Found.TheVariants.{Count, Argb, Nothing, Image, Icon}
use Rattle.cases.specs.declared.answer.Answer.{Answer}

-- 0 to 9, then a to f; above them each byte for itself.
unfoldable pub glyph : ℕ → ℕ
glyph d = cond (ltb d 10) (48 + d) (cond (ltb d 16) (87 + d) d)

-- The last k digits of n, the highest first.
unfoldable pub spelled : ℕ → ℕ → ℕ → List ℕ
spelled base zero n = []
spelled base (suc k) n = spelled base k (n / base) ++ (glyph (n % base) ∷ [])

-- How many digits n has, up to k more than one.
unfoldable pub places : ℕ → ℕ → ℕ → ℕ
places base zero n = 1
places base (suc k) n = cond (ltb n base) 1 (suc (places base k (n / base)))

-- No u64 has more than 20 decimal digits.
unfoldable pub number : ℕ → ℕ → List ℕ
number base n = spelled base (places base 19 n) n

abbrev pub decimal : ℕ → List ℕ
decimal n = number 10 n

abbrev pub sides_text : ℕ → ℕ → List ℕ
sides_text w h = ((32 ∷ 119 ∷ 61 ∷ []) ++ decimal w) ++ ((32 ∷ 104 ∷ 61 ∷ []) ++ decimal h)

-- "count=N"; "`get` has `argb=N` or `none` in the place of count; `lbmp` has `w=N h=N clear=N` there, and `res` `w=N h=N at=N`"
unfoldable pub found_text : Found → List ℕ
found_text (Count n) = (32 ∷ 99 ∷ 111 ∷ 117 ∷ 110 ∷ 116 ∷ 61 ∷ []) ++ decimal n
found_text (Argb n) = (32 ∷ 97 ∷ 114 ∷ 103 ∷ 98 ∷ 61 ∷ []) ++ decimal n
found_text Nothing = 32 ∷ 110 ∷ 111 ∷ 110 ∷ 101 ∷ []
found_text (Image w h clear) = sides_text w h ++ ((32 ∷ 99 ∷ 108 ∷ 101 ∷ 97 ∷ 114 ∷ 61 ∷ []) ++ decimal clear)
found_text (Icon w h start) = sides_text w h ++ ((32 ∷ 97 ∷ 116 ∷ 61 ∷ []) ++ decimal start)

-- "OP status=N"; a name is its letters, as the digits of base 256.
unfoldable pub status_text : Answer → List ℕ
status_text a = number 256 a.name ++ ((32 ∷ 115 ∷ 116 ∷ 97 ∷ 116 ∷ 117 ∷ 115 ∷ 61 ∷ []) ++ decimal a.status)

-- "hash=H", "in 16 hex digits", and the line's end
unfoldable pub line_of : Answer → List ℕ
line_of a =
    (((status_text a ++ found_text a.found) ++ (32 ∷ 104 ∷ 97 ∷ 115 ∷ 104 ∷ 61 ∷ [])) ++ spelled 16 16 a.hash) ++ (10 ∷ [])

-- A text put at a place of a buffer, byte by byte.
unfoldable pub placed : List ℕ → ℕ → List ℕ → List ℕ
placed d at [] = d
placed d at (b ∷ t) = placed (set d at b) (at + 1) t

-- What answering leaves and answers: with less than 144 bytes lent, nothing.
unfoldable pub answered : Answer → List ℕ → ℕ × List ℕ
answered a d = cond (ltb (length d) 144) (0, d) (length (line_of a), placed d 0 (line_of a))
