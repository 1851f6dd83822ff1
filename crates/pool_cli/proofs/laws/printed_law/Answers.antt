use Rattle.certificate_commands.proofs.Decided.{never_long}
use Rattle.pool_cli.proofs.laws.printed_law.Goals as goal

pub returns : goal.returns
returns c = record {
  never_long = λ files s status text solved few told net cert before after file. never_long told net cert text before after file (solved.short few);
  accepted = λ files s status text solved few told net cert end reads file decided.
      decided.valid record {
        network = solved.network;
        bytes = text;
        certificate = solved.certificate;
        read = record { reads = reads; file = file; short = solved.short few };
        spelled = solved.spelled;
        valid = solved.solution.valid;
      };
}
