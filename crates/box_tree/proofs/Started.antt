-- The tree of the root alone is the network's.
use Rattle.std.proofs.Common.{◌≡◌, ℕ, zero, suc, ◌<◌, List, [], ◌∷◌, get_or, replicate, Option, Some, None, ℤ, arith, refl, sym, ap, subst, ◌∙◌, map, option_map}
use Rattle.std.proofs.Math.Path.{fun_ext}
use Rattle.std.proofs.lemmas.Option.{none-some}
use Rattle.pool_model.specs.Network.{Net}
use Rattle.pool_model.specs.Starting.{reach_bound}
use Rattle.row_model.specs.Boxes.{coords}
use Rattle.row_model.specs.Multipliers.{Proof}
use Rattle.box_space.specs.Views.{shown_proof}
use Rattle.linear_program.specs.declared.multipliers.Proof.{Proof as HeldProof}
use Rattle.row_model.specs.Trees.{Split, node_bound}
use Rattle.row_model.specs.Entries.{Searched, start}
use Rattle.split_tree.specs.declared.span.Span.{Span}
use Rattle.split_tree.specs.Splits.{Splits, IsOf as AreCut}
use Rattle.box_tree.specs.Kept.{Kept, searched_of, IsKeptOf}
use Rattle.box_tree.proofs.Counting.{none-counted}

-- what is kept at the start
abbrev pub kept_first : Net → List Span → Kept
kept_first n spans = record { splits = record { list = []; spans = spans }; cuts = replicate (coords n) 0; proofs = None ∷ []; bounds = Some (reach_bound n) ∷ []; best = None; cost = None }

no_proof : (node : ℕ) → get_or (let xs : List (Option Proof) = None ∷ [] in xs) node None ≡ None
no_proof zero = refl
no_proof (suc node) = refl

first-bound : (n : Net) (spans : List Span) (node : ℕ) → node < 1 → get_or (kept_first n spans).bounds node None ≡ node_bound n (searched_of (kept_first n spans)).tree node
first-bound n spans zero h = refl
first-bound n spans (suc node) h = absurd (omega arith)

first-kept : (n : Net) (spans : List Span) → AreCut n (kept_first n spans).splits → IsKeptOf n (kept_first n spans)
first-kept n spans cut = record {
  searched = record {
    tree = record {
      few = cut.few;
      splits = cut.in_order;
      placed = λ node proof e. absurd (none-some proof (sym (no_proof node) ∙ e));
      proofs = λ node proof e. absurd (none-some proof (sym (no_proof node) ∙ e));
    };
    written = λ w e. absurd (none-some w e);
    obeys = λ w e. absurd (none-some w e);
  };
  splits = cut;
  counted = none-counted n;
  proved = refl;
  bounded = refl;
  bounds = λ node h. first-bound n spans node (omega arith);
  cost = tt;
}

-- the same, as code holds it
pub first-held : (n : Net) (t : Splits) (cuts : List ℕ) (proofs : List (Option HeldProof)) (bounds : List (Option ℤ)) → t.list ≡ [] → AreCut n t
    → cuts ≡ replicate (coords n) 0 → proofs ≡ None ∷ [] → bounds ≡ Some (reach_bound n) ∷ []
    → IsKeptOf n record { splits = t; cuts = cuts; proofs = map (option_map shown_proof) proofs; bounds = bounds; best = None; cost = None }
first-held n t cuts proofs bounds e cut c f g =
    subst (λ (xs : List ℕ). IsKeptOf n record { splits = t; cuts = xs; proofs = map (option_map shown_proof) proofs; bounds = bounds; best = None; cost = None }) (sym c)
    (subst (λ (xs : List (Option HeldProof)). IsKeptOf n record {
      splits = t;
      cuts = replicate (coords n) 0;
      proofs = map
          (option_map shown_proof) xs;
      bounds = bounds;
      best = None;
      cost = None;
    }) (sym f)
    (subst (λ (xs : List (Option ℤ)). IsKeptOf n record { splits = t; cuts = replicate (coords n) 0; proofs = None ∷ []; bounds = xs; best = None; cost = None }) (sym g)
    (subst (λ (xs : List Split). AreCut n record { list = xs; spans = t.spans }
    → IsKeptOf n record {
      splits = record { list = xs; spans = t.spans };
      cuts = replicate (coords n) 0;
      proofs = None ∷ [];
      bounds = Some (reach_bound n)
          ∷ [];
      best = None;
      cost = None;
    }) (sym e) (first-kept n t.spans) cut)))

-- ---- what is searched at the start

abbrev bare : List Split → (ℕ → Option Proof) → Searched
bare splits proof = record { tree = record { splits = splits; proof = proof }; best = None }

pub searched-first : (t u : Splits) (cuts : List ℕ) (proofs : List (Option HeldProof)) (bounds : List (Option ℤ)) → t ≡ u → u.list ≡ [] → proofs ≡ None ∷ []
    → searched_of record { splits = t; cuts = cuts; proofs = map (option_map shown_proof) proofs; bounds = bounds; best = None; cost = None } ≡ start
searched-first t u cuts proofs bounds same e f =
    ap (λ (xs : List Split). bare xs (λ node. get_or (map (option_map shown_proof) proofs) node None)) (ap (λ (s : Splits). s.list) same ∙ e)
    ∙ ap (bare []) (fun_ext (λ node. ap (λ (xs : List (Option HeldProof)). get_or (map (option_map shown_proof) xs) node None) f ∙ no_proof node))
