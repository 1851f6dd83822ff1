use Rattle.std.proofs.Common.{◌≡◌, List, [], ◌∷◌, ◌++◌, set, true, map, arith, ap, sym, subst, rules, ◌∙◌}
use Rattle.std.proofs.lemmas.Grind.{common_steps}
use Rattle.std.proofs.lemmas.List.{map_push}
use Rattle.pool_model.specs.Network.{net_of}
use Rattle.row_model.specs.Trees.{Split}
use Rattle.row_model.specs.Entries.{Searched, after, IsEntryInOrder}
use Rattle.box_tree.specs.Kept.{Held, searched_of, IsOf}
use Rattle.box_tree.specs.Views.{shown_entry}
use Rattle.work_units.specs.Units.{Answer}
use Rattle.work_units.specs.Views.{shown_answer}
use Rattle.work_units.specs.Desks.{Kept, Desk, desk_of, AreFlagged, IsFrom}
use Rattle.work_units.specs.Judging.{IsAtJob, after_delivery}
use Rattle.work_units.specs.declared.job.Job.{Job}
use Rattle.work_units.specs.declared.answer.Judged.TheVariants.{Fits}
use Rattle.work_units.proofs.Taking.{from-next, flags-next}
use Rattle.work_units.proofs.desk.Desk.deliver.Goals as goal

abbrev with-all : Searched → List Job → List Answer → Desk
with-all s jobs taken = record { searched = s; jobs = jobs; taken = taken }

with-parts : (s t : Searched) (jobs : List Job) (xs ys : List Answer) → s ≡ t → xs ≡ ys
    → with-all s jobs xs ≡ with-all t jobs ys
with-parts s t jobs xs ys e f = ap (λ (z : Searched). with-all z jobs xs) e ∙ ap (λ (zs : List Answer). with-all t jobs zs) f

pub invariant_of-self-in-Ok : goal.invariant_of-self-in-Ok
invariant_of-self-in-Ok c =
    let d = c.self.inside in
    let a = shown_answer c.args.answer in
    let at = subst (λ (k : Kept). IsAtJob (desk_of k) a) (sym c.self.view_is) c.in_default.ensures.dismissed in
    let made = ap (λ (s : Searched). s.tree.splits) c.in-Ok.ensures.ok in
    subst (λ (splits : List Split). AreFlagged splits d.jobs.items (set d.answered.items c.args.answer.number true)) (sym made)
    (flags-next (searched_of d.tree.kept) (shown_entry c.args.answer.entry) c.args.answer.number d.jobs.items d.answered.items c.self.invariant at.waiting.known at.splits)

pub returns-in-Ok-clause-from : goal.returns-in-Ok-clause-from
returns-in-Ok-clause-from c =
    let n = net_of c.args.net.now in
    let old = desk_of c.args.self.now in
    let a = shown_answer c.args.answer in
    let d = c.self.inside in
    let items : c.push_reserved.new.self.items ≡ d.taken.items ++ c.in_ok-copy.copy ∷ [] = first_of (search rules, grind (arith, common_steps)) in
    let taken : map shown_answer c.push_reserved.new.self.items ≡ map shown_answer d.taken.items ++ a ∷ [] =
    ap (map shown_answer) items ∙ map_push shown_answer d.taken.items c.in_ok-copy.copy ∙ ap (λ (x : Answer). map shown_answer d.taken.items ++ x ∷ []) c.in_ok-copy.ensures in
    let same = with-parts (searched_of c.apply.new.self.kept) (after (searched_of d.tree.kept) a.entry) d.jobs.items (map shown_answer c.push_reserved.new.self.items) (map shown_answer d.taken.items ++ a ∷ [])
    c.in-Ok.ensures.ok taken ∙ ap (λ (k : Kept). after_delivery (desk_of k) a Fits) c.self.view_is in
    let order = subst (λ (k : Kept). IsEntryInOrder n (searched_of k.tree.kept) a.entry) c.self.view_is c.in-Ok.ensures.in_order in
    λ s is. subst (IsFrom n s) (sym same) (from-next n s old a is c.in_default.ensures.dismissed order)

pub returns-in-Err-clause-from : goal.returns-in-Err-clause-from
returns-in-Err-clause-from c =
    let same : desk_of c.match-copy-2.self ≡ desk_of c.args.self.now = search rules in
    λ s is. subst (IsFrom (net_of c.args.net.now) s) (sym same) is

pub returns-in-Err-clause-tree : goal.returns-in-Err-clause-tree
returns-in-Err-clause-tree c =
    let same : c.match-copy-2.self.tree ≡ c.apply.new.self = search rules in
    subst (λ (t : Held). IsOf (net_of c.args.net.now) t) (sym same) c.apply.ensures.tree
