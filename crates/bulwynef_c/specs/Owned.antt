-- What a handle owns.
use Rattle.std.specs.Prelude.{Option, Some, None, Bool, is_some}
use mir.Syntax.{Ty}
use base.Fml.{Fml, ftrue, fsep, feq}
use denote.RawPtr.{Ptr}
use Rattle.std.specs.Box.Ownership.{box_owns}
use Rattle.bulwynef_c.specs.declared.object.Object.{Object}
use Rattle.bulwynef_c.specs.contracts.object.Object.{the_row}

-- The pointer owns the block that the value lies in, if there is a value.
abbrev pub block_of : (Ty → Ptr → Fml) → Ptr → Option Object → Fml
block_of holds p None = ftrue
block_of holds p (Some x) = box_owns holds the_row p x

-- The flag says whether there is a value. If there is one, the pointer owns the block that it lies in.
abbrev pub owned : (Ty → Ptr → Fml) → Bool → Ptr → Option Object → Fml
owned holds ok p d = fsep (feq Bool ok (is_some d)) (block_of holds p d)
