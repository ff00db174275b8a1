-- The number and the name of each refusal.
use Rattle.std.specs.Prelude.{ℕ, List, codes}
use Rattle.authenticators.specs.Refusals as listing
use Rattle.item_forms.specs.Refusals.{decode_name, decode_number}
use Rattle.proofs.specs.Refusals.{proof_name, proof_number}
use Rattle.judge.specs.declared.refusal.Refusal.{Refusal}
use Rattle.judge.specs.declared.refusal.Refusal.TheVariants as refusal

abbrev pub judge_number : Refusal → ℕ
judge_number (refusal.Directory f) = listing.number_of f
judge_number (refusal.Reading f) = decode_number f
judge_number (refusal.Proof f) = proof_number f
judge_number refusal.Memory = 99
judge_number refusal.ReadFailed = 100
judge_number refusal.WriteFailed = 102

abbrev pub judge_name : Refusal → List ℕ
judge_name (refusal.Directory f) = listing.name_of f
judge_name (refusal.Reading f) = decode_name f
judge_name (refusal.Proof f) = proof_name f
judge_name refusal.Memory = codes "Memory"
judge_name refusal.ReadFailed = codes "ReadFailed"
judge_name refusal.WriteFailed = codes "WriteFailed"
