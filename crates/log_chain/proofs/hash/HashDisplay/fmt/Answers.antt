use Rattle.std.proofs.Common.{◌<◌, slice_index, ℕ, rules}
use Rattle.std.proofs.lemmas.Str.{IsUtf8-from_ascii}
use Rattle.hex.specs.Hex.{encode_lower, lower_digits}
use Rattle.hex.proofs.HexLemmas.{IsAscii-encode_with}
use Rattle.log_chain.proofs.hash.HashDisplay.fmt.Goals as goal

pub unreachable-requires-in_default-from_utf8 : goal.unreachable-requires-in_default-from_utf8
unreachable-requires-in_default-from_utf8 g c =
    let digits : (i : ℕ) → slice_index lower_digits i < 128 = search rules in
    let text = IsUtf8-from_ascii (encode_lower c.self.inside.0) (IsAscii-encode_with lower_digits c.self.inside.0 digits) in
    c.in_default-from_utf8.ensures.cases.0 (rw c.in-Ok.ensures.written text)
