-- Which lines are kept.
use Rattle.std.proofs.Common.{◌≡◌, ℕ, zero, suc, ◌+◌, ◌-◌, ◌<◌, ◌≤◌, Bool, true, false, ◌||◌, not, None, Option, List, [], ◌∷◌, ◌++◌, length, get_or, take, fold, refl, ap, sym, subst, ◌∙◌, inl, inr, arith, All, Contains, eqb, cond}
use Rattle.std.specs.List.{list_any}
use Rattle.std.proofs.lemmas.Bool.{and_from, not_from_false}
use Rattle.std.proofs.lemmas.List.{append-nil}
use Rattle.std.proofs.lemmas.List.Elements.{All-contains, All-head, All-tail}
use Rattle.std.proofs.lemmas.List.Sums.{fold-append}
use Rattle.fapp_model.specs.declared.instance.Instance.{Instance}
use Rattle.fapp_model.proofs.Anys.{no-member}
use Rattle.fapp_model.proofs.Members.{All-from_members, at_front, behind, front_or_behind, no_member}
use Rattle.cert_lines.specs.declared.answer.Answer.{Answer}
use Rattle.cert_lines.specs.declared.answer.Line.{Line}
use Rattle.cert_lines.specs.declared.answer.Rule.{Rule}
use Rattle.cert_lines.specs.declared.answer.Rule.TheVariants.{Branch, Count, Delete}
use Rattle.cert_lines.specs.WellFormed.{IsLineOrDelete, IsLine, IsLineIn, IsRule, IsWellFormed}
use Rattle.cert_lines.specs.acceptance.Deleted.{deletes, is_delete, is_deleted, is_kept, kept, kept_from}
use Rattle.fapp_model.specs.declared.literal.Literal.{Literal}
use Rattle.fapp_model.specs.declared.tag.Tag.{Tag}
use Rattle.cert_lines.specs.acceptance.Excluded.{is_cited, is_excluded, is_marked, line_at, no_line}
use Rattle.cert_lines.specs.acceptance.LineFaults.{line_fault, rule_fault}
use Rattle.cert_lines.specs.acceptance.RootFaults.{with_root_line}

-- where a line that is kept stands
pub record IsKeptAt (all lines : List Line) (first : ℕ) (x : Line) : Type 0 where
  pub place : ℕ
  pub inside : place < length lines
  pub stays : is_kept all (first + place) (get_or lines place no_line) ≡ true
  pub is : get_or lines place no_line ≡ x

module _ (all : List Line) where
  from-later : (n : ℕ) (line : Line) (more : List Line) (x : Line) → IsKeptAt all more (n + 1) x → IsKeptAt all (line ∷ more) n x
  from-later n line more x h = record {
    place = suc h.place;
    inside = (let l = h.inside in omega arith);
    stays = subst (λ m. is_kept all m (get_or more h.place no_line) ≡ true) (let e : n + 1 + h.place ≡ n + suc h.place = omega arith in e) h.stays;
    is = h.is;
  }

  kept-at : (n : ℕ) (lines : List Line) (x : Line) → Contains (kept_from all n lines) x → IsKeptAt all lines n x
  kept-at n [] x m = absurd (no_member x m)
  kept-at n (line ∷ more) x m = by_kept (λ k. kept-at (n + 1) more x k) (is_kept all n line) refl m
    where
      by_kept : (Contains (kept_from all (n + 1) more) x → IsKeptAt all more (n + 1) x) → (b : Bool) → is_kept all n line ≡ b → Contains (cond b (line ∷ kept_from all (n + 1) more) (kept_from all (n + 1) more)) x → IsKeptAt all (line ∷ more) n x
      by_kept again true e m = elim (front_or_behind line (kept_from all (n + 1) more) x m) [
        | inl here ↦ record { place = 0; inside = omega arith; stays = subst (λ m. is_kept all m line ≡ true) (let s : n ≡ n + 0 = omega arith in s) e; is = here }
        | inr later ↦ from-later n line more x (again later)
      ]
      by_kept again false e m = from-later n line more x (again m)

  in-kept : (n : ℕ) (lines : List Line) (place : ℕ) → place < length lines → is_kept all (n + place) (get_or lines place no_line) ≡ true → Contains (kept_from all n lines) (get_or lines place no_line)
  in-kept n [] place small stays = absurd (omega arith)
  in-kept n (line ∷ more) zero small stays = rw (subst (λ m. is_kept all m line ≡ true) (let s : n + 0 ≡ n = omega arith in s) stays) (at_front line (kept_from all (n + 1) more))
  in-kept n (line ∷ more) (suc place) small stays =
      by_kept (is_kept all n line) (in-kept (n + 1) more place (omega arith) (subst (λ m. is_kept all m (get_or more place no_line) ≡ true) (let s : n + suc place ≡ n + 1 + place = omega arith in s) stays))
    where
      by_kept : (b : Bool) → Contains (kept_from all (n + 1) more) (get_or more place no_line) → Contains (cond b (line ∷ kept_from all (n + 1) more) (kept_from all (n + 1) more)) (get_or more place no_line)
      by_kept true later = behind line (kept_from all (n + 1) more) (get_or more place no_line) later
      by_kept false later = later

-- a kept line by its number, from 1
pub record IsKeptLine (lines : List Line) (x : Line) : Type 0 where
  pub n : ℕ
  pub low : 0 < n
  pub high : n ≤ length lines
  pub stays : is_kept lines n (line_at lines n) ≡ true
  pub is : line_at lines n ≡ x

pub kept-line : (lines : List Line) (x : Line) → Contains (kept lines) x → IsKeptLine lines x
unfolding kept
kept-line lines x m =
    let h = kept-at lines 1 lines x m in
    let same : h.place ≡ 1 + h.place - 1 = omega arith in
    record {
      n = 1 + h.place;
      low = omega arith;
      high = (let l = h.inside in omega arith);
      stays = subst (λ k. is_kept lines (1 + h.place) (get_or lines k no_line) ≡ true) same h.stays;
      is = ap (λ k. get_or lines k no_line) (sym same) ∙ h.is;
    }

pub kept-there : (lines : List Line) (n : ℕ) → 0 < n → n ≤ length lines → is_kept lines n (line_at lines n) ≡ true → Contains (kept lines) (line_at lines n)
unfolding kept
kept-there lines n low high stays =
    in-kept lines 1 lines (n - 1) (omega arith) (subst (λ k. is_kept lines k (line_at lines n) ≡ true) (let s : n ≡ 1 + (n - 1) = omega arith in s) stays)

pub all-kept : (P : Line → Type 0) (lines : List Line) → All P lines → All P (kept lines)
all-kept P lines h = All-from_members P (kept lines) (λ x m. let k = kept-line lines x m in
    let low = k.low in let high = k.high in
    subst P k.is (h (k.n - 1) no_line (omega arith)))

-- ---- the lines of a version

line-entry : (version : ℕ) (instance : Instance) (line : Line) → IsLineIn version instance line → IsLineOrDelete instance line
line-entry version instance line (inl h) = inl h
line-entry version instance line (inr h) = inr h.1

pub entries-of : (instance : Instance) (answer : Answer) → IsWellFormed instance answer → All (IsLineOrDelete instance) answer.lines
entries-of instance answer good k d l = line-entry answer.version instance (get_or answer.lines k d) (good.lines k d l)

line-plain : (version : ℕ) (instance : Instance) (line : Line) → version ≡ 1 → IsLineIn version instance line → IsLine instance line
line-plain version instance line one (inl h) = h
line-plain version instance line one (inr h) = absurd (omega (arith, one, h.0))

pub plain-lines : (instance : Instance) (answer : Answer) → answer.version ≡ 1 → IsWellFormed instance answer → All (IsLine instance) answer.lines
plain-lines instance answer one good k d l = line-plain answer.version instance (get_or answer.lines k d) one (good.lines k d l)

-- lines that delete none stand in each version
pub lines-in : (version : ℕ) (instance : Instance) (lines : List Line) → All (IsLine instance) lines → All (IsLineIn version instance) lines
lines-in version instance lines h k d l = inl (h k d l)

second-line : (instance : Instance) (line : Line) → IsLineOrDelete instance line → IsLineIn 2 instance line
second-line instance line (inl h) = inl h
second-line instance line (inr h) = inr (refl, h)

pub entries-in : (instance : Instance) (lines : List Line) → All (IsLineOrDelete instance) lines → All (IsLineIn 2 instance) lines
entries-in instance lines h k d l = second-line instance (get_or lines k d) (h k d l)

-- ---- lines that delete none

abbrev pub IsPlain : Line → Type 0
IsPlain line = is_delete line.rule ≡ false

pub plain-rule : (instance : Instance) (rule : Rule) → IsRule instance rule → is_delete rule ≡ false
plain-rule instance (Count cites) h = refl
plain-rule instance (Branch path children) h = refl
plain-rule instance (Delete cites) h = absurd h

pub formed-plain : (instance : Instance) (lines : List Line) → All (IsLine instance) lines → All IsPlain lines
formed-plain instance lines h = All-from_members IsPlain lines (λ line m. plain-rule instance line.rule (All-contains (IsLine instance) lines line h m).rule)

pub plain-deletes : (rule : Rule) → is_delete rule ≡ false → deletes rule ≡ []
plain-deletes (Count cites) e = refl
plain-deletes (Branch path children) e = refl
plain-deletes (Delete cites) e = absurd (cc)

pub none-deleted : (lines : List Line) (n : ℕ) → All IsPlain lines → is_deleted lines n ≡ false
none-deleted lines n h = no-member (λ line. list_any (λ m. eqb m n) (deletes line.rule)) lines
    (λ line m. rw (plain-deletes line.rule (All-contains IsPlain lines line h m)) refl)

plain-kept : (all : List Line) (none : (n : ℕ) → is_deleted all n ≡ false) (n : ℕ) (lines : List Line) → All IsPlain lines → kept_from all n lines ≡ lines
plain-kept all none n [] h = refl
plain-kept all none n (line ∷ more) h =
    rw (and_from (not (is_delete line.rule)) (not (is_deleted all n)) (not_from_false (is_delete line.rule) (All-head IsPlain line more h)) (not_from_false (is_deleted all n) (none n)))
    (ap (λ ls. line ∷ ls) (plain-kept all none (n + 1) more (All-tail IsPlain line more h)))

-- where no line deletes, all are kept
pub all-stay : (lines : List Line) → All IsPlain lines → kept lines ≡ lines
unfolding kept
all-stay lines h = plain-kept lines (λ n. none-deleted lines n h) 1 lines h

-- ---- what is judged from such lines

pub plain-excluded : (lines : List Line) → All IsPlain lines → (t : Tag) (cites : List ℕ) (literals : List Literal) (a : Literal) →
    is_excluded lines t cites literals a ≡ (is_marked lines t a || is_cited lines cites literals a)
plain-excluded lines h t cites literals a = ap (λ ls. is_marked ls t a || is_cited lines cites literals a) (all-stay lines h)

-- a line that deletes none has no fault where its rule has none
pub plain-line : (instance : Instance) (earlier : List Line) (line : Line) → is_delete line.rule ≡ false → cond (eqb line.tag.code 0) None (rule_fault instance earlier line.tag line.lits line.rule) ≡ None →
    line_fault instance earlier line ≡ None
unfolding line_fault
plain-line instance earlier line plain h = rw (plain-deletes line.rule plain) h

-- ---- the root lines that are kept, one by one

-- one line more
pub kept-more : (all : List Line) (n : ℕ) (lines : List Line) (i : ℕ) → i < length lines →
    kept_from all n (take (suc i) lines) ≡ kept_from all n (take i lines) ++ cond (is_kept all (n + i) (get_or lines i no_line)) (get_or lines i no_line ∷ []) []
kept-more all n [] i small = absurd (omega arith)
kept-more all n (line ∷ lines) zero small = let e : n + 0 ≡ n = omega arith in rw e refl
kept-more all n (line ∷ lines) (suc i) small =
    let later = kept-more all (n + 1) lines i (omega arith) in
    let e : n + 1 + i ≡ n + suc i = omega arith in
    by_kept (is_kept all n line) (later ∙ ap (λ k. kept_from all (n + 1) (take i lines) ++ cond (is_kept all k (get_or lines i no_line)) (get_or lines i no_line ∷ []) []) e)
  where
    by_kept : (b : Bool) → kept_from all (n + 1) (take (suc i) lines) ≡ kept_from all (n + 1) (take i lines) ++ cond (is_kept all (n + suc i) (get_or lines i no_line)) (get_or lines i no_line ∷ []) []
        → cond b (line ∷ kept_from all (n + 1) (take (suc i) lines)) (kept_from all (n + 1) (take (suc i) lines)) ≡ cond b (line ∷ kept_from all (n + 1) (take i lines)) (kept_from all (n + 1) (take i lines)) ++ cond (is_kept all (n + suc i) (get_or lines i no_line)) (get_or lines i no_line ∷ []) []
    by_kept true e = ap (λ ls. line ∷ ls) e
    by_kept false e = e

-- what was found so far, and what is found with the next line
pub root-more : (lines : List Line) (i : ℕ) (found next : Option Tag) → i < length lines → found ≡ fold with_root_line None (kept_from lines 1 (take i lines))
    → next ≡ cond (is_kept lines (i + 1) (line_at lines (i + 1))) (with_root_line found (line_at lines (i + 1))) found
    → next ≡ fold with_root_line None (kept_from lines 1 (take (i + 1) lines))
root-more lines i found next small e h =
    let line = get_or lines i no_line in
    let one : i + 1 ≡ suc i = omega arith in
    let place : 1 + i ≡ i + 1 = omega arith in
    let more = kept-more lines 1 lines i small ∙ ap (λ k. kept_from lines 1 (take i lines) ++ cond (is_kept lines k line) (line ∷ []) []) place in
    let here : i + 1 - 1 ≡ i = omega arith in
    h ∙ ap (λ k. cond (is_kept lines (i + 1) (get_or lines k no_line)) (with_root_line found (get_or lines k no_line)) found) here
    ∙ by_kept (is_kept lines (i + 1) line) found e
    ∙ sym (ap (λ k. fold with_root_line None (kept_from lines 1 (take k lines))) one ∙ ap (fold with_root_line None) more)
  where
    by_kept : (b : Bool) (found : Option Tag) → found ≡ fold with_root_line None (kept_from lines 1 (take i lines))
        → cond b (with_root_line found (get_or lines i no_line)) found ≡ fold with_root_line None (kept_from lines 1 (take i lines) ++ cond b (get_or lines i no_line ∷ []) [])
    by_kept true found e = ap (λ f. with_root_line f (get_or lines i no_line)) e ∙ sym (fold-append with_root_line None (kept_from lines 1 (take i lines)) (get_or lines i no_line ∷ []))
    by_kept false found e = e ∙ ap (fold with_root_line None) (sym (append-nil (kept_from lines 1 (take i lines))))
