-- Every row of the table holds: each side is computed.
use mathlib.Core.Path.{refl}
use Rattle.words.specs.Word.{from_color, level5, level6, to_color}
use Rattle.words.specs.Ink.{keeps_alpha, xor_color, plot_word}
use lib.Ieee.{of_int, neg, add, sub, mul, div, lt, eq}
use Rattle.floats.specs.Whole.{round_size, round_as}
use Rattle.segments.specs.Cut.{near, inside, kept, narrowed, parameters, end, clip_segment}
use Rattle.canvas.specs.Clip.{shared, intersection, within, in_clip}
use Rattle.canvas.specs.Plot.{tint, dip, on_canvas, fate, hits}
use Rattle.canvas.specs.Lines.{step, walk, bresenham, line}
use Rattle.canvas.specs.Call.{dots}
use Rattle.lbmp.specs.File.{kind_of}
use Rattle.lbmp.specs.Image.{grey, grey_color, color_at, masked, word_under}
use Rattle.screens.specs.Screens.{Every, none, also, table}

pub starred : Every table
unfolding table from_color to_color level5 level6 keeps_alpha xor_color plot_word shared intersection line bresenham walk step clip_segment kept inside near narrowed parameters end round_size round_as of_int neg add sub mul div lt eq tint dip hits dots fate on_canvas in_clip within grey grey_color kind_of color_at masked word_under
starred =
    also refl (also refl (also refl (also refl (also refl (also refl (also refl (also refl (also refl (also refl (also refl
    (also refl (also refl (also refl (also refl (also refl (also refl (also refl (also refl none))))))))))))))))))
