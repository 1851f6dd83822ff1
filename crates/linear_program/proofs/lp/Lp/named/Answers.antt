use Rattle.std.proofs.Common.{rules, ◌+◌, ◌<◌, nat_lt, vec_len}
use Rattle.std.proofs.lemmas.Fn.{All-from_retain, filter_same}
use Rattle.linear_program.proofs.lp.Lp.named.Goals as goal

pub returns-clause-kept : goal.returns-clause-kept
returns-clause-kept c = filter_same _ (λ n. nat_lt n (vec_len c.args.self.now.low + vec_len c.args.self.now.rows)) _ (λ x b f h. search rules) _ _ c.retain.ensures.filtered

pub returns-clause-columns : goal.returns-clause-columns
returns-clause-columns c = All-from_retain _ (λ n. n < vec_len c.args.self.now.low + vec_len c.args.self.now.rows) _ (λ x b f h. search rules) _ _ c.retain.ensures.filtered
