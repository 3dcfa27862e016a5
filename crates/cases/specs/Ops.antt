-- The names of the ops: an op is its letters, two hex digits each.
use Rattle.std.specs.Prelude.{ℕ}

abbrev pub put : ℕ
put = 0x707574

abbrev pub get : ℕ
get = 0x676574

abbrev pub line : ℕ
line = 0x6c696e65

abbrev pub rect : ℕ
rect = 0x72656374

abbrev pub fill : ℕ
fill = 0x66696c6c

abbrev pub arc : ℕ
arc = 0x617263

abbrev pub pie : ℕ
pie = 0x706965

abbrev pub rrect : ℕ
rrect = 0x7272656374

abbrev pub frrect : ℕ
frrect = 0x667272656374

abbrev pub copy : ℕ
copy = 0x636f7079

abbrev pub invert : ℕ
invert = 0x696e76657274

abbrev pub draw : ℕ
draw = 0x64726177

abbrev pub lbmp : ℕ
lbmp = 0x6c626d70

abbrev pub res : ℕ
res = 0x726573
