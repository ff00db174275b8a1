-- The code by which a model stores what lies behind a handle.
use Rattle.std.specs.Prelude.{Option}
use Rattle.std.specs.Coded.{Coded, codes}
use Rattle.evidence.specs.Contents.{items_code}
use Rattle.bulwynef_c.specs.declared.object.Object.{Object}

pub object_code : Coded (Option Object)
object_code = Prim.hlevel (codes, items_code)
