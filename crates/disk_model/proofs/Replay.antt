-- The steps of a file in memory, gone again.
use Rattle.std.proofs.Common.{◌≡◌, ℕ, ◌+◌, ◌<◌, List, [], ◌∷◌, ◌++◌, length, take, get_or, refl, sym, ◌∙◌, ap, subst, arith, length-take, get_or-take}
use Rattle.std.proofs.lemmas.List.{take_more}
use Rattle.disk_model.specs.Steps.{after_step, file_after, Leaves, MayLeave, synced_step, synced_after, Replayed, Takes}
use Rattle.disk_model.specs.Images.{file_after-push, image-push}
use Rattle.disk_model.specs.declared.step.Step.{Step}
use Rattle.disk_model.specs.declared.step.Step.TheVariants.{Write, Cut, Sync}

synced_after-push : (ss : List Step) (s : Step) (file synced : List ℕ) → synced_after (ss ++ s ∷ []) file synced ≡ synced_step s (file_after ss file) (synced_after ss file synced)
synced_after-push [] s file synced = refl
synced_after-push (x ∷ ss) s file synced = synced_after-push ss s (after_step x file) (synced_step x file synced)

-- a step more of the list that a loop goes over
pub more-of : (steps xs : List Step) (n k : ℕ) (s : Step) → xs ≡ steps → k < length (take n xs) → s ≡ get_or (take n xs) k s → take (k + 1) steps ≡ take k steps ++ s ∷ []
more-of steps xs n k s same lt is =
    let small : k < n = omega (arith, length-take n xs, lt) in
    let within : k < length steps = omega (arith, length-take n xs, lt, ap length same) in
    take_more steps k s within ∙ ap (λ (x : Step). take k steps ++ x ∷ []) (ap (λ (l : List Step). get_or l k s) (sym same) ∙ sym (get_or-take n xs k s small) ∙ sym is)

leaves-weaker : (s : Step) (file : List ℕ) (P Q : List ℕ → Type 0) (c : List ℕ) → ((i : List ℕ) → P i → Q i) → Leaves s file P c → Leaves s file Q c
leaves-weaker (Write at bytes) file P Q c weaker left = (left.0, weaker left.0 left.1, left.2)
leaves-weaker (Cut to) file P Q c weaker left = (left.0, weaker left.0 left.1, left.2)
leaves-weaker Sync file P Q c weaker left = left

-- after one step more
pub replayed-more : (start : List ℕ) (steps : List Step) (choice k : ℕ) (s : Step) (file image next landed : List ℕ)
    → take (k + 1) steps ≡ take k steps ++ s ∷ [] → Replayed start steps choice k file image → Takes s choice file image next landed → Replayed start steps choice (k + 1) next landed
replayed-more start steps choice k s file image next landed more r goes = record {
  file_is = goes.file_is ∙ ap (after_step s) r.file_is ∙ sym (ap (λ (w : List Step). file_after w start) more ∙ file_after-push ss s start);
  leaves = subst (λ (w : List Step). MayLeave start w landed) (sym more) (image-push ss s start (λ i. i ≡ start) landed (
      leaves-weaker s (file_after ss start) (λ i. i ≡ image) (MayLeave start ss) landed (λ i is. subst (MayLeave start ss) (sym is) r.leaves)
      (subst (λ (f : List ℕ). Leaves s f (λ i. i ≡ image) landed) r.file_is goes.leaves)
      ));
  synced = λ z. goes.synced z
      ∙ ap (λ (f : List ℕ). synced_step s f image) r.file_is
      ∙ ap (synced_step s (file_after ss start)) (r.synced z)
      ∙ sym (ap (λ (w : List Step). synced_after w start start) more ∙ synced_after-push ss s start start);
  written = λ z. goes.written z (r.written z);
}
  where
    ss : List Step
    ss = take k steps
