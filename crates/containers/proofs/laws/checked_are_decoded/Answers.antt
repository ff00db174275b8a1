use Rattle.std.proofs.Common.{None}
use Rattle.std.specs.Prelude.{◌≡◌}
use Rattle.evidence_item.specs.Validity.{fault_of}
use Rattle.containers.specs.CheckedItems.{checked_of}
use Rattle.containers.specs.DecodedItems.{decoded_of}
use Rattle.containers.proofs.Decoded.{import_alike, is_checked, is_decoded}
use Rattle.containers.proofs.laws.checked_are_decoded.Goals as goal

pub returns : goal.returns
returns c = record {
  decoded = λ ds magic bytes items e. import_alike (λ x. Unit {0}) (checked_of ds) decoded_of (is_decoded ds) magic bytes items e (λ k d lt. tt);
  valid = λ ds magic bytes items e all. import_alike (λ x. fault_of ds x ≡ None) decoded_of (checked_of ds) (is_checked ds) magic bytes items e all;
}
