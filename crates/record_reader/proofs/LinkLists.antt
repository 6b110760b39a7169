-- One more link.
use Rattle.std.proofs.Common.{◌≡◌, ℕ, zero, suc, ◌<◌, List, [], ◌∷◌, ◌++◌, length, get_or, All, refl, ap, subst, arith}
use Rattle.std.proofs.lemmas.List.Elements.{All-head, All-tail}
use Rattle.record_reader.specs.declared.entry.PathEntry.{PathEntry}
use Rattle.record_reader.specs.declared.entry.Pending.{Pending}
use Rattle.record_reader.specs.declared.entry.Pending.TheVariants as links
use Rattle.record_reader.specs.Instances.{paths_of, constraints_of}

pub paths_append : (xs ys : List Pending) → paths_of (xs ++ ys) ≡ paths_of xs ++ paths_of ys
paths_append [] ys = refl
paths_append (links.Path entry ∷ xs) ys = ap (λ rest. entry ∷ rest) (paths_append xs ys)
paths_append (links.Constraint entry ∷ xs) ys = paths_append xs ys

pub constraints_append : (xs ys : List Pending) → constraints_of (xs ++ ys) ≡ constraints_of xs ++ constraints_of ys
constraints_append [] ys = refl
constraints_append (links.Path entry ∷ xs) ys = constraints_append xs ys
constraints_append (links.Constraint entry ∷ xs) ys = ap (λ rest. entry ∷ rest) (constraints_append xs ys)

same_path : (p q : PathEntry) → ◌≡◌ {A = Pending} (links.Path p) (links.Path q) → p ≡ q
same_path p q h = cc

-- the entry of a path among the entries is one of the paths
pub path_entry_at : (P : PathEntry → Type 0) (xs : List Pending) (i : ℕ) (d : Pending) (entry : PathEntry) → i < length xs → get_or xs i d ≡ links.Path entry → All P (paths_of xs) → P entry
path_entry_at P [] i d entry lt e h = absurd (omega arith)
path_entry_at P (links.Path p ∷ xs) zero d entry lt e h = subst P (same_path p entry e) (All-head P p (paths_of xs) h)
path_entry_at P (links.Constraint c ∷ xs) zero d entry lt e h = absurd cc
path_entry_at P (links.Path p ∷ xs) (suc i) d entry lt e h = path_entry_at P xs i d entry (omega arith) e (All-tail P p (paths_of xs) h)
path_entry_at P (links.Constraint c ∷ xs) (suc i) d entry lt e h = path_entry_at P xs i d entry (omega arith) e h
