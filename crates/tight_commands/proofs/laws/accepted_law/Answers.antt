use Rattle.tight_commands.proofs.laws.accepted_law.Goals as goal

pub returns : goal.returns
returns c = λ told net cert tight text form pivots is file.
    record {
      network = is.0;
      certificate = is.1.0;
      bytes = text;
      read = record { certified = is.1.1; text = record { file = file; short = is.1.2.short } };
      hold = (is.1.2.text, is.1.2.spelled, is.1.2.are.holds);
    }
