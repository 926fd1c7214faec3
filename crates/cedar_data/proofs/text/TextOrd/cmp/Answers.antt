use Rattle.std.proofs.Common.{refl}
use Rattle.cedar_data.proofs.text.TextOrd.cmp.Goals as goal

pub returns : goal.returns
returns c = rw (c.compare_bytes.ensures, c.as_str.ensures.bytes, c.as_str-2.ensures.bytes) refl
