use Rattle.std.proofs.Common.{arith}
use Rattle.cert_lengths.proofs.Lines.{length-u32, length-u64, length-i64, length-i128}
use Rattle.cert_lengths.proofs.laws.field_law.Goals as goal

pub returns : goal.returns
returns c = record {
  u32 = λ n h. omega (arith, length-u32 n h);
  u64 = λ n h. omega (arith, length-u64 n h);
  i64 = λ z h. omega (arith, length-i64 z h);
  i128 = λ z h. omega (arith, length-i128 z h);
}
