-- The table of ops: "OP ARGS..", a name and the kinds of its arguments.
use Rattle.std.specs.Prelude.{cond, List, [], ◌∷◌, ◌++◌, ℕ, ◌+◌, ◌-◌, eqb, get_or, set, replicate}
use Rattle.cases.specs.Ops as ops
use Rattle.cases.specs.Line.{Left, Got, got}
use Rattle.cases.specs.Number.{named_of, numeric}
use Rattle.cases.specs.Seed.{Sown, given, seed_of, file_of}
use Rattle.cases.specs.declared.ops.Kind.{Kind}
use Rattle.cases.specs.declared.ops.Kind.TheVariants.{Int, Switch, Channel, Seed, Unsigned, File, Rule, Row}

-- The kinds by letters.
abbrev pub a : Kind
a = Int

abbrev pub c : Kind
c = Channel

abbrev pub e : Kind
e = Unsigned

-- "F W H X SEED", the row length and the rule
abbrev pub head : List Kind
head = e ∷ e ∷ e ∷ Switch ∷ Seed ∷ Row 4 ∷ Rule ∷ []

-- "x y"; "w h"; "COL is A R G B"; "CLIP is x y w h"
abbrev pub point : List Kind
point = a ∷ a ∷ []

abbrev pub extent : List Kind
extent = e ∷ e ∷ []

abbrev pub color : List Kind
color = c ∷ c ∷ c ∷ c ∷ []

abbrev pub clip : List Kind
clip = point ++ extent

-- What is no op has no arguments.
unfoldable pub row_of : ℕ → List Kind
row_of op =
    cond (eqb op ops.put) (point ++ color ++ clip)
    (cond (eqb op ops.get) point
    (cond (eqb op ops.line) (point ++ point ++ color ++ clip)
    (cond (eqb op ops.rect) (point ++ extent ++ color ++ clip)
    (cond (eqb op ops.fill) (point ++ extent ++ color ++ clip)
    (cond (eqb op ops.arc) (point ++ extent ++ point ++ color ++ clip)
    (cond (eqb op ops.pie) (point ++ extent ++ point ++ color ++ clip)
    (cond (eqb op ops.rrect) (point ++ extent ++ extent ++ color ++ clip)
    (cond (eqb op ops.frrect) (point ++ extent ++ extent ++ color ++ clip)
    (cond (eqb op ops.copy) (point ++ point ++ extent ++ clip)
    (cond (eqb op ops.invert) (point ++ extent ++ clip)
    (cond (eqb op ops.draw) (point ++ extent ++ (e ∷ e ∷ e ∷ Seed ∷ Row 3 ∷ Rule ∷ []) ++ point ++ clip)
    (cond (eqb op ops.lbmp) (e ∷ File ∷ [])
    (cond (eqb op ops.res) (File ∷ []) [])))))))))))))

-- The arguments that are numbers, each at its place among the words, and the seed or the file.
pub record Args : Type 0 where
  pub numbers : List ℕ
  pub seed : Sown

unfoldable pub numbered : ℕ → Got Args → Got ℕ → Got Args
numbered i g n = got (record { numbers = set g.value.numbers i n.value; seed = g.value.seed }) n.left

unfoldable pub seeded : Got Args → Got Sown → Got Args
seeded g s = got (record { numbers = g.value.numbers; seed = s.value }) s.left

-- "row=N: row length in pixels; absent: the width"
abbrev pub row_name : List ℕ
row_name = 114 ∷ 111 ∷ 119 ∷ 61 ∷ []

unfoldable pub row_length : ℕ → Left → Got ℕ
row_length width l = named_of row_name width l

-- "rule=N: blending rule; absent: 1"
abbrev pub rule_name : List ℕ
rule_name = 114 ∷ 117 ∷ 108 ∷ 101 ∷ 61 ∷ []

unfoldable pub rule_number : Left → Got ℕ
rule_number l = named_of rule_name 1 l

-- The number that is the word i, behind those before it.
unfoldable pub word_of : ℕ → Kind → List ℕ → Left → Got ℕ
word_of i Rule n l = rule_number l
word_of i (Row k) n l = row_length (get_or n (i - k) 0) l
word_of i k n l = numeric k l

-- One argument more, the word i of them.
unfoldable pub arg_of : ℕ → Kind → Got Args → Got Args
arg_of i Seed g = seeded g (seed_of g.left)
arg_of i File g = seeded g (file_of g.left)
arg_of i k g = numbered i g (word_of i k g.value.numbers g.left)

unfoldable pub args_from : ℕ → List Kind → Got Args → Got Args
args_from i [] g = g
args_from i (k ∷ ks) g = args_from (i + 1) ks (arg_of i k g)

unfoldable pub args_of : List Kind → Left → Got Args
args_of ks l = args_from 0 ks (got (record { numbers = replicate 16 0; seed = given [] }) l)
