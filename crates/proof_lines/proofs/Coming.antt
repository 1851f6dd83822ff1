-- The item that comes is one that the text may go on with.
use Rattle.std.proofs.Common.{◌≡◌, ◌≢◌, ◌⊎◌, ℕ, ◌-◌, inl, Bool, true, false, cond, eqb, ◌^◌, [], ◌++◌, Result, Ok, Err, IsTrue, refl, sym, ap, subst}
use Rattle.std.specs.Prelude.{codes}
use Rattle.std.specs.Prelude.{IfOk, OnOk}
use Rattle.edge_io.specs.Counts.{Rose, RoseBy}
use Rattle.shelf_calls.specs.Opened.{IsUsedUp}
use Rattle.shelf_calls.specs.Told.{Keeps}
use Rattle.cert_text.specs.declared.pieces.Ends.TheVariants.{Space, Line, LineIfZero}
use Rattle.cert_text.specs.Reading.{At, ◌>>=◌, word_at, same_at, end_of, ends_before, u32_at, u64_at, i128_at}
use Rattle.cert_text.proofs.Laws.{done, ok_is, bind_ok}
use Rattle.cert_format.specs.Reading.{kind_at, shape_at, list_word_at, split_line_at, part_at, bound_at}
use Rattle.cert_text.specs.declared.fault.TextFault.{TextFault}
use Rattle.cert_stream.specs.declared.fault.ItemFault.{ItemFault}
use Rattle.cert_stream.specs.declared.fault.ItemFault.TheVariants as faults
use Rattle.cert_items.specs.declared.items.Item.{Item}
use Rattle.cert_items.specs.declared.items.State.{State}
use Rattle.cert_items.specs.declared.items.State.TheVariants as states
use Rattle.cert_stream.specs.Items.{Field, kind, shape, bases, weight, outflow, direct, splits, cut, proofs, head, one_part, cost_is, bound_is, gap_is, end_is}
use Rattle.cert_stream.specs.Items.{shown_item, cuts_left, proofs_left, parts_left, directs_left, shaped_state, direct_words_at, outflow_words_at}
use Rattle.cert_stream.specs.Items.{weight_words_at, begin_at, shape_step_at, bases_step_at, weight_step_at, outflow_step_at, direct_step_at, head_step_at}
use Rattle.cert_stream.specs.Items.{claim_step_at, next_at}
use Rattle.cert_stream.specs.Streams.{at_of, GivesItem, GivesFault, IsMore, TookMore}
use Rattle.proof_lines.specs.Runs.{Moment}
use Rattle.proof_lines.specs.Grammar.{outflows_left, weights_left, MayCome, behind_item, Came}
use Rattle.cert_stream.proofs.Calls.{ran-one, told-quiet, fault-quiet}
use Rattle.proof_lines.proofs.Running.{fault-later}

-- ---- the words before a list of flows

left_of : (t : Bool) (r : Result (State × At) ℕ) (x y s : State) (c b : At) → (r ≡ Ok (s, b) → s ≡ x) → cond t r (done (y, c)) ≡ done (s, b) → s ≡ cond t x y
left_of true r x y s c b h e = h e
left_of false r x y s c b h e = sym (ap (λ (p : State × At). p.0) (ok_is (y, c) (s, b) e))

direct_words : (n : ℕ) (a b : At) (s : State) → direct_words_at n a ≡ Ok (s, b) → s ≡ directs_left n
unfolding direct_words_at
direct_words n a b s e =
    let w = bind_ok (list_word_at (codes "direct") n a) (λ w. done (directs_left n, w.1)) (s, b) e in
    sym (ap (λ (p : State × At). p.0) (ok_is (directs_left n, w.0.1) (s, b) w.2))

outflow_words : (n d : ℕ) (a b : At) (s : State) → outflow_words_at n d a ≡ Ok (s, b) → s ≡ outflows_left n d
unfolding outflow_words_at
outflow_words n d a b s e =
    let w = bind_ok (list_word_at (codes "outflows") n a) (λ w. cond (eqb n 0) (direct_words_at d w.1) (done (states.Outflow (n - 1) d, w.1))) (s, b) e in
    left_of (eqb n 0) (direct_words_at d w.0.1) (directs_left d) (states.Outflow (n - 1) d) s w.0.1 b (direct_words d w.0.1 b s) w.2

weight_words : (n o d : ℕ) (a b : At) (s : State) → weight_words_at n o d a ≡ Ok (s, b) → s ≡ weights_left n o d
unfolding weight_words_at
weight_words n o d a b s e =
    let w = bind_ok (list_word_at (codes "weights") n a) (λ w. cond (eqb n 0) (outflow_words_at o d w.1) (done (states.Weight (n - 1) o d, w.1))) (s, b) e in
    left_of (eqb n 0) (outflow_words_at o d w.0.1) (outflows_left o d) (states.Weight (n - 1) o d) s w.0.1 b (outflow_words o d w.0.1 b s) w.2

-- ---- one item

-- an item and the state behind it, as they were read
abbrev Found : Type 0
Found = (Field × State) × At

-- what is said of an item that came, and of the state behind it
abbrev Fits : State → Field → State → Type 0
Fits s i t = MayCome s i × (t ≡ behind_item s i)

fits : (s : State) (x : Found) (i : Field) (t : State) (b : At) → done x ≡ done ((i, t), b) → Fits s x.0.0 x.0.1 → Fits s i t
fits s x i t b e h = subst (λ (p : Found). Fits s p.0.0 p.0.1) (ok_is x ((i, t), b) e) h

-- an item before a state
abbrev with_item : Field → State × At → Result Found ℕ
with_item j next = Ok ((j, next.0), next.1)

-- the same where the state was found behind the item
fits_behind : (s : State) (j : Field) (r : Result (State × At) ℕ) (i : Field) (t : State) (b : At) → ((u : State) (c : At) → r ≡ Ok (u, c) → Fits s j u)
    → (r >>= with_item j) ≡ done ((i, t), b) → Fits s i t
fits_behind s j r i t b h e =
    let n = bind_ok r (with_item j) ((i, t), b) e in
    fits s ((j, n.0.0), n.0.1) i t b n.2 (h n.0.0 n.0.1 n.1)

in_claim : (s : State) (a b : At) (i : Field) (t : State) → s ≢ states.Ended → claim_step_at s a ≡ Ok ((i, t), b) → Fits s i t
unfolding claim_step_at
in_claim states.Cost a b i t going e =
    let w = bind_ok (word_at (codes "cost ") a) _ ((i, t), b) e in
    let c = bind_ok (i128_at Space w.0.1) _ ((i, t), b) w.2 in
    let d = bind_ok (u64_at Line c.0.1) _ ((i, t), b) c.2 in
    fits states.Cost ((cost_is c.0.0 d.0.0, states.GapBound d.0.0), d.0.1) i t b d.2 (tt, refl)
in_claim (states.GapBound base) a b i t going e =
    let d = bind_ok (bound_at a) _ ((i, t), b) e in
    fits (states.GapBound base) ((bound_is d.0.0, states.Gap base), d.0.1) i t b d.2 (tt, refl)
in_claim (states.Gap base) a b i t going e =
    let w = bind_ok (word_at (codes "gap ") a) _ ((i, t), b) e in
    let g = bind_ok (i128_at Space w.0.1) _ ((i, t), b) w.2 in
    let d = bind_ok (same_at (2 ^ 64 - 1) (end_of Line) base g.0.1) _ ((i, t), b) g.2 in
    fits (states.Gap base) ((gap_is g.0.0 base, states.End), d.0.1) i t b d.2 (refl, refl)
in_claim states.Bound a b i t going e =
    let d = bind_ok (bound_at a) _ ((i, t), b) e in
    fits states.Bound ((bound_is d.0.0, states.End), d.0.1) i t b d.2 (tt, refl)
in_claim states.End a b i t going e =
    let w = bind_ok (word_at (codes "end\n") a) _ ((i, t), b) e in
    fits states.End ((end_is, states.Ended), w.0.1) i t b w.2 (tt, refl)
in_claim _ a b i t going e = absurd cc

next-fits : (s : State) (a b : At) (i : Field) (t : State) → s ≢ states.Ended → next_at s a ≡ Ok ((i, t), b) → MayCome s i × (t ≡ behind_item s i)
unfolding next_at begin_at shape_step_at bases_step_at weight_step_at outflow_step_at direct_step_at head_step_at
next-fits states.Begin a b i t going e =
    let w = bind_ok (word_at (codes "poolcert 1\n") a) _ ((i, t), b) e in
    let k = bind_ok (kind_at w.0.1) _ ((i, t), b) w.2 in
    fits states.Begin ((kind k.0.0, states.Shape k.0.0), k.0.1) i t b k.2 (tt, refl)
next-fits (states.Shape k) a b i t going e =
    let s = bind_ok (shape_at a) _ ((i, t), b) e in
    fits (states.Shape k) ((shape s.0.0, shaped_state k s.0.0), s.0.1) i t b s.2 (tt, refl)
next-fits (states.Bases n o d) a b i t going e =
    let w = bind_ok (word_at (codes "plan ") a) _ ((i, t), b) e in
    let x = bind_ok (u32_at Space w.0.1) _ ((i, t), b) w.2 in
    let y = bind_ok (u32_at Line x.0.1) _ ((i, t), b) x.2 in
    fits_behind (states.Bases n o d) (bases x.0.0 y.0.0) (weight_words_at n o d y.0.1) i t b (λ u c h. (tt, weight_words n o d y.0.1 c u h)) y.2
next-fits (states.Weight n o d) a b i t going e =
    let w = bind_ok (u32_at (ends_before n) a) _ ((i, t), b) e in
    fits_behind (states.Weight n o d) (weight w.0.0) (cond (eqb n 0) (outflow_words_at o d w.0.1) (done (states.Weight (n - 1) o d, w.0.1))) i t b
    (λ u c h. (tt, left_of (eqb n 0) (outflow_words_at o d w.0.1) (outflows_left o d) (states.Weight (n - 1) o d) u w.0.1 c (outflow_words o d w.0.1 c u) h)) w.2
next-fits (states.Outflow n d) a b i t going e =
    let f = bind_ok (u64_at (ends_before n) a) _ ((i, t), b) e in
    fits_behind (states.Outflow n d) (outflow f.0.0) (cond (eqb n 0) (direct_words_at d f.0.1) (done (states.Outflow (n - 1) d, f.0.1))) i t b
    (λ u c h. (tt, left_of (eqb n 0) (direct_words_at d f.0.1) (directs_left d) (states.Outflow (n - 1) d) u f.0.1 c (direct_words d f.0.1 c u) h)) f.2
next-fits (states.Direct n) a b i t going e =
    let f = bind_ok (u64_at (ends_before n) a) _ ((i, t), b) e in
    fits (states.Direct n) ((direct f.0.0, directs_left n), f.0.1) i t b f.2 (tt, refl)
next-fits (states.Splits k) a b i t going e =
    let w = bind_ok (word_at (codes "splits ") a) _ ((i, t), b) e in
    let n = bind_ok (u32_at Line w.0.1) _ ((i, t), b) w.2 in
    fits (states.Splits k) ((splits n.0.0, cuts_left k n.0.0), n.0.1) i t b n.2 (tt, refl)
next-fits (states.Cut k n) a b i t going e =
    let s = bind_ok (split_line_at a) _ ((i, t), b) e in
    fits (states.Cut k n) ((cut s.0.0, cuts_left k n), s.0.1) i t b s.2 (tt, refl)
next-fits (states.Proofs k) a b i t going e =
    let w = bind_ok (word_at (codes "proofs ") a) _ ((i, t), b) e in
    let n = bind_ok (u32_at Line w.0.1) _ ((i, t), b) w.2 in
    fits (states.Proofs k) ((proofs n.0.0, proofs_left k n.0.0), n.0.1) i t b n.2 (tt, refl)
next-fits (states.Head k n) a b i t going e =
    let w = bind_ok (word_at (codes "proof ") a) _ ((i, t), b) e in
    let x = bind_ok (u32_at Space w.0.1) _ ((i, t), b) w.2 in
    let y = bind_ok (u64_at Space x.0.1) _ ((i, t), b) x.2 in
    let z = bind_ok (u32_at LineIfZero y.0.1) _ ((i, t), b) y.2 in
    fits (states.Head k n) ((head x.0.0 y.0.0 z.0.0, parts_left k z.0.0 n), z.0.1) i t b z.2 (tt, refl)
next-fits (states.Part k n behind) a b i t going e =
    let p = bind_ok (part_at n a) _ ((i, t), b) e in
    fits (states.Part k n behind) ((one_part p.0.0, parts_left k n behind), p.0.1) i t b p.2 (tt, refl)
next-fits states.Cost a b i t going e = in_claim states.Cost a b i t going e
next-fits (states.GapBound base) a b i t going e = in_claim (states.GapBound base) a b i t going e
next-fits (states.Gap base) a b i t going e = in_claim (states.Gap base) a b i t going e
next-fits states.Bound a b i t going e = in_claim states.Bound a b i t going e
next-fits states.End a b i t going e = in_claim states.End a b i t going e
next-fits states.Ended a b i t going e = absurd (going refl)

-- what a call gave, as the item that came
pub item-came : (m k : Moment) (item : Item) → m.reader.state ≢ states.Ended → Keeps m.shelf k.shelf → GivesItem m.reader m.shelf.rest k.reader k.shelf.rest item
    → RoseBy (m.reader.left - k.reader.left) m.shelf.taken k.shelf.taken → k.shelf.faults ≡ m.shelf.faults → Came m k (Ok item)
item-came m k item going kept gives counted quiet =
    let f = next-fits m.reader.state (at_of m.reader (gives.took.taken ++ [])) (at_of k.reader []) (shown_item item) k.reader.state going (gives.reads [] (λ e. refl)) in (
      record { kept = kept; ran = ran-one item going gives; counted = counted; quiet = quiet },
      f.0,
      record { at = f.1; used_up = gives.took.used_up },
      gives.whole,
    )

-- what a call answered, whatever it was
pub call-came : (m k : Moment) (result : Result Item ItemFault) → m.reader.state ≢ states.Ended → (IsTrue m.reader.ended → IsUsedUp m.shelf.rest) → Keeps m.shelf k.shelf
    → IfOk result (GivesItem m.reader m.shelf.rest k.reader k.shelf.rest) → OnOk result (RoseBy (m.reader.left - k.reader.left) m.shelf.taken k.shelf.taken)
    → ((f : TextFault) → result ≡ Err (faults.Text f) → GivesFault m.reader m.shelf.rest k.reader k.shelf.rest f) → (result ≡ Err faults.TooLong → IsMore m.reader.left m.shelf.rest)
    → (result ≡ Err faults.TooLong → TookMore m.reader.left m.shelf.taken k.shelf.taken) → (result ≡ Err faults.Read → Rose m.shelf.faults k.shelf.faults)
    → (result ≡ Err faults.Read) ⊎ (k.shelf.faults ≡ m.shelf.faults) → Came m k result
call-came m k (Ok item) going used kept gives counted text long more read quiet = item-came m k item going kept gives counted (told-quiet quiet)
call-came m k (Err faults.Read) going used kept gives counted text long more read quiet = record { kept = kept; why = read refl; quiet = inl refl }
call-came m k (Err faults.TooLong) going used kept gives counted text long more read quiet = record { kept = kept; why = (long refl, more refl); quiet = fault-quiet quiet }
call-came m k (Err (faults.Text f)) going used kept gives counted text long more read quiet = record { kept = kept; why = fault-later m k f used (text f refl); quiet = fault-quiet quiet }
