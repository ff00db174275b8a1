use Rattle.std.proofs.Common.{refl}
use Rattle.log_chain.proofs.FieldKinds.{u8_field, u32_field, u64_field, front_again, bytes_again}
use Rattle.log_chain.proofs.laws.fields_read_back.Goals as goal

pub returns : goal.returns
returns c = record {
  u8 = λ n rest lt. u8_field.again n rest lt;
  u32 = λ n rest lt. u32_field.again n rest lt;
  u64 = λ n rest lt. u64_field.again n rest lt;
  plain = λ text rest. front_again _ text rest refl;
  bytes = λ most text rest small le. bytes_again most text rest small le;
}
