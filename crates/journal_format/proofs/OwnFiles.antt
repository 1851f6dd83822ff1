-- Files that are born or not, and those that a journal may leave.
use Rattle.std.proofs.Common.{◌≡◌, ℕ, zero, suc, ◌<◌, ◌≤◌, ◌⊎◌, inl, inr, List, [], ◌++◌, ◌∷◌, length, get_or, take, drop, refl, sym, ap, subst, ◌∙◌, arith}
use Rattle.row_model.specs.Entries.{Entry}
use Rattle.journal_format.specs.Histories.{History, unturned, born_in, goes_on_in, history_bytes, entries_of}
use Rattle.journal_format.specs.Files.{header, HasMagic, IsShut, IsClosed, IsUnborn, IsRecordable, IsHistoryOf, Stands, IsKept, IsOwn, IsOwnFor}
use Rattle.journal_format.specs.Records.{Place, IsKeptAt, IsHeaded}
use Rattle.journal_format.specs.declared.version.Version.{Version}
use Rattle.journal_format.specs.declared.version.Version.TheVariants.{Two}
use Rattle.journal_format.proofs.HistoryLaws.{one_reading, ends-closed}

-- ---- what a journal may leave

-- an unborn file stands for nothing
pub unborn-stands : (text file : List ℕ) → IsUnborn file → Stands file text []
unborn-stands text file unborn = (unturned Two [], inl (unborn, refl), refl)

-- what begins with 0, and what is short
pub blank-own : (text file : List ℕ) → (length file ≤ 1) ⊎ (get_or file 0 0 ≡ 0) → IsOwnFor text [] file
blank-own text file (inl short) = (inl short, unborn-stands text file (inl short))
blank-own text file (inr none) = (inr (inl none), unborn-stands text file (inr (inl none)))

-- a closed gate is no open one
pub shut-closed : (rest : List ℕ) → IsShut rest → IsClosed rest
shut-closed [] shut = absurd shut
shut-closed (gate ∷ rest) shut = shut

pub kept-stands : (text : List ℕ) (list : List Entry) (file : List ℕ) → IsKept text list file → Stands file text list
kept-stands text list file kept = (kept.history, inr (kept.rest, shut-closed kept.rest kept.shut, kept.holds), kept.entries)

-- a file with its first closed gate
pub kept-own : (text : List ℕ) (list : List Entry) (file : List ℕ) → IsKept text list file → IsOwnFor text list file
kept-own text list file kept = (inr (inr (inr (list, kept))), kept-stands text list file kept)

-- the header of either version with any birth byte, and a closed gate behind it
pub any_birth : (v : Version) (text : List ℕ) (birth : ℕ) (rest : List ℕ) → IsShut rest → IsOwnFor text [] (header birth v text ++ rest)
any_birth v text zero rest shut = blank-own text (header zero v text ++ rest) (inr refl)
any_birth v text (suc zero) rest shut =
    kept-own text [] (header 1 v text ++ rest) (record { history = unturned v []; entries = refl; rest = rest; shut = shut; holds = record { parts = refl; each = tt } })
any_birth v text (suc (suc b)) rest shut = (
  inr (inr (inl (record { birth = suc (suc b); many = omega arith; version = v; rest = rest; shut = shut; parts = refl }))),
  unborn-stands text (header (suc (suc b)) v text ++ rest) (inr (inr (omega arith, refl))),
)

-- ---- born, or not

first_of : (birth : ℕ) (v : Version) (text rest file : List ℕ) → file ≡ header birth v text ++ rest → get_or file 0 0 ≡ birth
first_of birth v text rest file is = ap (λ (l : List ℕ). get_or l 0 0) is

long_of : (v : Version) (text rest file : List ℕ) → file ≡ header 1 v text ++ rest → 1 < length file
long_of v text rest file is = subst (λ (l : List ℕ). 1 < length l) (sym is) (omega arith)

-- no born file is unborn
pub born_not : (v : Version) (text rest file : List ℕ) → file ≡ header 1 v text ++ rest → IsUnborn file → ⊥
born_not v text rest file is (inl short) = let long = long_of v text rest file is in omega arith
born_not v text rest file is (inr (inl none)) = let one = first_of 1 v text rest file is in omega arith
born_not v text rest file is (inr (inr (many, marked))) = let one = first_of 1 v text rest file is in omega arith

-- a file has one history
pub one_history_of : (file text : List ℕ) (h k : History) → IsHistoryOf file text h → IsHistoryOf file text k → h ≡ k
one_history_of file text h k (inl a) (inl b) = a.1 ∙ sym b.1
one_history_of file text h k (inl a) (inr b) = absurd (born_not (born_in k) text (history_bytes k ++ b.0) file b.2.parts a.0)
one_history_of file text h k (inr a) (inl b) = absurd (born_not (born_in h) text (history_bytes h ++ a.0) file a.2.parts b.0)
one_history_of file text h k (inr a) (inr b) =
    (one_reading IsRecordable (λ v e good. good) text file h k a.0 b.0 a.2.parts b.2.parts a.2.each b.2.each
    (ends-closed IsRecordable (goes_on_in h) a.0 a.1) (ends-closed IsRecordable (goes_on_in k) b.0 b.1)).0

-- and so it stands for one list
pub one_standing : (file text : List ℕ) (l m : List Entry) → Stands file text l → Stands file text m → l ≡ m
one_standing file text l m a b = sym a.2 ∙ ap entries_of (one_history_of file text a.0 b.0 a.1 b.1) ∙ b.2

-- an unborn file stands for nothing
pub unborn_empty : (text file : List ℕ) (list : List Entry) → IsUnborn file → Stands file text list → list ≡ []
unborn_empty text file list unborn stands = one_standing file text list [] stands (unborn-stands text file unborn)

-- an own file that is born has its first closed gate
pub own_kept : (v : Version) (text : List ℕ) (start : ℕ) (file : List ℕ) (list : List Entry) → IsHeaded v text start file → IsOwn text file → Stands file text list → IsKept text list file
own_kept v text start file list headed (inl short) stands = let long = long_of v text (drop start file) file headed.parts in absurd (omega arith)
own_kept v text start file list headed (inr (inl none)) stands = let one = first_of 1 v text (drop start file) file headed.parts in absurd (omega arith)
own_kept v text start file list headed (inr (inr (inl half))) stands =
    let one = first_of 1 v text (drop start file) file headed.parts in
    let many = first_of half.birth half.version text half.rest file half.parts in
    absurd (omega (arith, half.many))
own_kept v text start file list headed (inr (inr (inr (m, kept)))) stands =
    subst (λ (l : List Entry). IsKept text l file) (one_standing file text m list (kept-stands text m file kept) stands) kept

-- ---- the list that stands

-- a file that a journal may leave stands for a list
pub own_stands : (text file : List ℕ) → IsOwn text file → (list : List Entry) × Stands file text list
own_stands text file (inl short) = ([], unborn-stands text file (inl short))
own_stands text file (inr (inl none)) = ([], unborn-stands text file (inr (inl none)))
own_stands text file (inr (inr (inl half))) =
    let first = first_of half.birth half.version text half.rest file half.parts in
    let marked : HasMagic file = ap (λ (l : List ℕ). take 7 (drop 1 l)) half.parts in
    ([], unborn-stands text file (inr (inr (omega (arith, first, half.many), marked))))
own_stands text file (inr (inr (inr (list, kept)))) = (list, kept-stands text list file kept)

-- a file that holds a list, wherever its first closed gate is
pub kept_of : (next : Place) (text file : List ℕ) (list : List Entry) → IsKeptAt next text list file → IsKept text list file
kept_of next text file list at = record { history = at.history; entries = at.entries; rest = at.rest; shut = at.shut; holds = at.holds }
