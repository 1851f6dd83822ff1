-- What a writer has written.
use Rattle.std.specs.Prelude.{◌≡◌, ℕ, List, ◌++◌, Option, Result, Ok, Err, option_map}

-- the bytes that were taken before and these behind them, where they are told
abbrev pub behind : Option (List ℕ) → List ℕ → Option (List ℕ)
behind taken bytes = option_map (λ t. t ++ bytes) taken

-- a front of the text was taken
pub record TookFront (old : Option (List ℕ)) (text : List ℕ) (new : Option (List ℕ)) : Type 0 where
  pub front : List ℕ
  pub rest : List ℕ
  pub parts : text ≡ front ++ rest
  pub added : new ≡ behind old front

-- all of the text was taken, or at a fault a front of it
abbrev pub Wrote : {X E : Type 0} → Result X E → Option (List ℕ) → List ℕ → Option (List ℕ) → Type 0
Wrote (Ok x) old text new = new ≡ behind old text
Wrote (Err e) old text new = TookFront old text new
