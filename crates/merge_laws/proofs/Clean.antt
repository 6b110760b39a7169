-- What has no fault, from its parts.
use Rattle.std.proofs.Common.{◌≡◌, ℕ, ◌<◌, ◌≤◌, Bool, true, ◌&&◌, not, List, [], ◌∷◌, length, refl, Option, None, All, Contains, ltb, leb, eqb}
use Rattle.std.specs.List.{list_all}
use Rattle.std.proofs.lemmas.Bool.{and_from, not_from_false, eq-eqb, lt-ltb, le-leb}
use Rattle.std.proofs.lemmas.List.Elements.{All-contains}
use Rattle.fapp_model.specs.declared.literal.Literal.{Literal}
use Rattle.fapp_model.specs.declared.tag.Tag.{Tag}
use Rattle.fapp_model.specs.search.Partials.{HasAll}
use Rattle.fapp_model.proofs.Anys.{any-member}
use Rattle.fapp_model.proofs.Members.{All-from_members, at_front, behind}
use Rattle.cert_lines.specs.declared.answer.Line.{Line}
use Rattle.cert_lines.specs.declared.reject.RejectCause.TheVariants.{CiteDeleted, CiteNotEarlier, CiteNotContained, CiteTagTooLow}
use Rattle.cert_lines.specs.acceptance.Contained.{is_same, has, has_all}
use Rattle.cert_lines.specs.acceptance.Deleted.{is_deleted}
use Rattle.cert_lines.proofs.Deleting.{IsPlain, none-deleted}
use Rattle.cert_lines.specs.acceptance.Excluded.{line_at}
use Rattle.cert_lines.specs.acceptance.LineFaults.{first_of, cause_unless, cite_fault}
use Rattle.accept_laws.proofs.Options.{both-none, none-first_of}
use Rattle.accept_laws.proofs.Renumbering.{passes-none}

pub first_of-clean : {X Y : Type 0} (f : X → Option Y) (xs : List X) → ((x : X) → Contains xs x → f x ≡ None) → first_of f xs ≡ None
first_of-clean f xs h = none-first_of f xs (All-from_members (λ x. f x ≡ None) xs h)

pub all-from : {X : Type 0} (p : X → Bool) (xs : List X) → ((x : X) → Contains xs x → p x ≡ true) → list_all p xs ≡ true
all-from p [] h = refl
all-from p (x ∷ xs) h = and_from (p x) (list_all p xs) (h x (at_front x xs)) (all-from p xs (λ y m. h y (behind x xs y m)))

same-self : (a : Literal) → is_same a a ≡ true
same-self a = and_from (eqb a.path a.path) (eqb a.choice a.choice) (eq-eqb a.path a.path refl) (eq-eqb a.choice a.choice refl)

pub has-from : (literals : List Literal) (a : Literal) → Contains literals a → has literals a ≡ true
has-from literals a m = any-member (λ b. is_same b a) literals a m (same-self a)

pub has_all-from : (literals cited : List Literal) → HasAll literals cited → has_all literals cited ≡ true
has_all-from literals cited h = all-from (has literals) cited (λ a m. has-from literals a (All-contains (Contains literals) cited a h m))

pub clean-cite : (out : List Line) → All IsPlain out → (t : Tag) (contains : List Literal → Bool) (n : ℕ) → 0 < n → n ≤ length out → contains (line_at out n).lits ≡ true → t.code ≤ (line_at out n).tag.code → cite_fault out t contains n ≡ None
clean-cite out plain t contains n low high inside reaches =
    both-none (cause_unless (ltb 0 n && leb n (length out)) CiteNotEarlier) _ (passes-none _ CiteNotEarlier (and_from (ltb 0 n) (leb n (length out)) (lt-ltb 0 n low) (le-leb n (length out) high)))
    (both-none (cause_unless (not (is_deleted out n)) CiteDeleted) _ (passes-none _ CiteDeleted (not_from_false (is_deleted out n) (none-deleted out n plain)))
    (both-none (cause_unless (contains (line_at out n).lits) CiteNotContained) _ (passes-none _ CiteNotContained inside)
    (passes-none _ CiteTagTooLow (le-leb t.code (line_at out n).tag.code reaches))))
