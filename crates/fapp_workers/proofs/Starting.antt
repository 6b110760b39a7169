-- The bounds that were read as jobs began.
use Rattle.std.proofs.Common.{◌≡◌, inl, inr, ℕ, ◌≤◌, List, [], ◌∷◌, ◌++◌, All, AllPairs, refl, sym, ap, ◌∙◌, subst, arith, le_trans}
use Rattle.std.proofs.lemmas.List.{append-nil, append_assoc, map-append}
use Rattle.std.proofs.lemmas.List.Elements.{All-nil, All-push, All-weaker}
use Rattle.std.proofs.lemmas.List.Quantifiers.{all_pairs_push}
use Rattle.fapp_workers.specs.declared.job.Done.{Done}
use Rattle.fapp_workers.specs.SharedBounds.{FindsFirst}
use Rattle.fapp_workers.specs.Works.{IsBoundClause, IsSubsequence, starts_of}

-- they are among the words found, in order, never rise, and what was told last is no more than each of them
pub record AreStarted (old new : List ℕ) (told : ℕ) (done : List Done) : Type 0 where
  pub clause : IsBoundClause old new done
  pub low : All (λ n. told ≤ n) (starts_of done)

sub-none : (all : List ℕ) → IsSubsequence [] all
sub-none [] = refl
sub-none (x ∷ all) = inl (sub-none all)

-- more was found, of which the first belongs to them
sub-push : (some all : List ℕ) (x : ℕ) (more : List ℕ) → IsSubsequence some all → IsSubsequence (some ++ x ∷ []) (all ++ x ∷ more)
sub-push some [] x more h = inr ([], subst (λ xs. xs ++ x ∷ [] ≡ x ∷ []) (sym h) refl, sub-none more)
sub-push some (y ∷ all) x more (inl h) = inl (sub-push some all x more h)
sub-push some (y ∷ all) x more (inr h) = inr (h.0 ++ x ∷ [], ap (λ (xs : List ℕ). xs ++ x ∷ []) h.1, sub-push h.0 all x more h.2)

pub none-started : (old : List ℕ) (told : ℕ) → AreStarted old old told []
none-started old told = record {
  clause = record { gained = []; found = sym (append-nil old); among = refl; falls = pairs-none };
  low = All-nil _;
}
  where
    pairs-none : AllPairs (λ a b. b ≤ a) []
    pairs-none = λ i j d less inside. absurd (omega (arith, inside))

pub one-started : (old now new : List ℕ) (told next : ℕ) (done : List Done) (last : Done) → AreStarted old now told done → last.start.code ≤ told → next ≤ last.start.code → FindsFirst now new last.start.code →
    AreStarted old new next (done ++ last ∷ [])
one-started old now new told next done last h low falls first =
    let c = h.clause in
    let starts : starts_of (done ++ last ∷ []) ≡ starts_of done ++ last.start.code ∷ [] = map-append (λ (d : Done). d.start.code) done (last ∷ []) in
    record {
      clause = record {
        gained = c.gained ++ last.start.code ∷ first.more;
        found = first.found ∙ (ap (λ (xs : List ℕ). xs ++ last.start.code ∷ first.more) c.found ∙ append_assoc old c.gained (last.start.code ∷ first.more));
        among = subst (λ xs. IsSubsequence xs (c.gained ++ last.start.code ∷ first.more)) (sym starts) (sub-push (starts_of done) c.gained last.start.code first.more c.among);
        falls = subst (AllPairs (λ a b. b ≤ a)) (sym starts) (pairs-push (starts_of done) last.start.code c.falls (All-weaker (λ n. told ≤ n) (λ n. last.start.code ≤ n) (λ n t. le_trans low t) (starts_of done) h.low));
      };
      low = subst (All (λ n. next ≤ n)) (sym starts) (All-push (λ n. next ≤ n) (starts_of done) last.start.code (All-weaker (λ n. told ≤ n) (λ n. next ≤ n) (λ n t. le_trans falls (le_trans low t)) (starts_of done) h.low) falls);
    }
  where
    pairs-push : (xs : List ℕ) (x : ℕ) → AllPairs (λ a b. b ≤ a) xs → All (λ n. x ≤ n) xs → AllPairs (λ a b. b ≤ a) (xs ++ x ∷ [])
    pairs-push xs x pairs all = all_pairs_push (λ a b. b ≤ a) xs x pairs all
