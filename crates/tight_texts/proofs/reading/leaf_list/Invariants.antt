use Rattle.std.proofs.Common.{◌≡◌, ◌-◌, map}
use Rattle.cert_text.specs.Reading.{each_at}
use Rattle.cert_text.proofs.Each.{with_front}
use Rattle.tight_texts.specs.Reading.{leaf_at}
use Rattle.tight_texts.specs.Views.{place_of, shown_leaf}
use Rattle.tight_texts.proofs.reading.leaf_list.Given as goal

abbrev pub invariant-loop : goal.invariant-loop
invariant-loop l = with_front (map shown_leaf l.leaves.items) (each_at (λ _. leaf_at) (l.n - l.counter) (place_of l.src)) ≡ each_at (λ _. leaf_at) l.n (place_of l.fn.src)
