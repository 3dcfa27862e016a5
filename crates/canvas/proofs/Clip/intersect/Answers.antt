-- Corner by corner and side by side.
use Rattle.canvas.proofs.span.Corners.{corner, extent-shared, clip-is}
use Rattle.canvas.proofs.Clip.intersect.Goals as goal

pub returns : goal.returns
returns c =
    let a = c.args in
    clip-is a.self a.other _ _ _ _ (corner a.self.x a.other.x (record { sfits = c.struct_told-1.given.0.1 })
    (record { sfits = c.struct_told-2-1.given.0.1 }) _ c.max.ensures.value)
    (corner a.self.y a.other.y (record { sfits = c.struct_told-3-1.given.1.0.1 })
    (record { sfits = c.struct_told-4-1.given.1.0.1 }) _ c.max-2.ensures.value)
    (extent-shared a.self.x a.other.x (record { sfits = c.struct_told-1.given.0.1 })
    (record { sfits = c.struct_told-2-1.given.0.1 }) _ _ _ c.shared_by.ensures)
    (extent-shared a.self.y a.other.y (record { sfits = c.struct_told-3-1.given.1.0.1 })
    (record { sfits = c.struct_told-4-1.given.1.0.1 }) _ _ _ c.shared_by-2.ensures)
