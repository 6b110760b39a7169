-- Lists that have all of others, and lines that are added.
use Rattle.std.proofs.Common.{◌≡◌, ◌≤◌, ◌<◌, Some, length, subst, arith, List, [], ◌∷◌, ◌++◌, All, AllPairs, Contains, sym, ap, ◌∙◌, ⊎_elim, append_assoc, append-nil}
use Rattle.std.proofs.lemmas.List.Elements.{All-append, All-contains, All-cons, All-nil, Contains-append_cases}
use Rattle.fapp_model.proofs.InOrder.{pairs-append}
use Rattle.fapp_model.proofs.Members.{All-from_members, at_front, behind}
use Rattle.search_log.specs.declared.line.LogLine.{LogLine}
use Rattle.std.specs.List.{slice_get}
use Rattle.std.proofs.lemmas.Bool.{cases_lt}
use Rattle.std.proofs.lemmas.Option.{slice_get_within}
use Rattle.fapp_model.specs.declared.instance.Instance.{Instance}
use Rattle.fapp_model.specs.InstanceTags.{IsTagFor}
use Rattle.search_log.specs.Contents.{content_of}
use Rattle.search_log.proofs.ByPlace.{front-or-last, get-front, last-is}
use Rattle.search_log.specs.Shares.{IsServedContent}
use Rattle.settle_laws.specs.Worlds.{AreServed, Gains}
use Rattle.search_log.specs.GoodLogs.{IsBare}

module _ {X : Type 0} where
  pub has-same : (xs : List X) → All (Contains xs) xs
  has-same xs = All-from_members (Contains xs) xs (λ x m. m)

  pub has-trans : (xs ys zs : List X) → All (Contains ys) xs → All (Contains zs) ys → All (Contains zs) xs
  has-trans xs ys zs h k = All-from_members (Contains zs) xs (λ x m. All-contains (Contains zs) ys x k (All-contains (Contains ys) xs x h m))

  pub has-front : (a : X) (xs : List X) → All (Contains (a ∷ xs)) (xs ++ a ∷ [])
  has-front a xs = All-from_members (Contains (a ∷ xs)) (xs ++ a ∷ []) (λ x m. ⊎_elim
      (λ l. behind a xs x l)
      (λ r. All-contains (Contains (a ∷ xs)) (a ∷ []) x (All-cons (Contains (a ∷ xs)) a [] (at_front a xs) (All-nil (Contains (a ∷ xs)))) r)
      (Contains-append_cases xs (a ∷ []) x m))

  pub has-cons : (a : X) (xs ys : List X) → All (Contains ys) xs → All (Contains (a ∷ ys)) (a ∷ xs)
  has-cons a xs ys h = All-cons (Contains (a ∷ ys)) a xs (at_front a ys) (All-from_members (Contains (a ∷ ys)) xs (λ x m. behind a ys x (All-contains (Contains ys) xs x h m)))

  pub pairs-join : (R : X → X → Type 0) (xs ys : List X) → AllPairs R xs → AllPairs R ys → ((x y : X) → Contains xs x → Contains ys y → R x y) → AllPairs R (xs ++ ys)
  pairs-join R xs ys h k across = pairs-append R xs ys h k (All-from_members (λ x. All (R x) ys) xs (λ x m. All-from_members (R x) ys (λ y n. across x y m n)))

pub gains-none : (lines : List LogLine) → Gains lines lines
gains-none lines = record { more = []; are = sym (append-nil lines); plain = All-nil IsBare }

pub gains-trans : (a b c : List LogLine) → Gains a b → Gains b c → Gains a c
gains-trans a b c h k = record {
  more = h.more ++ k.more;
  are = k.are ∙ (ap (λ l. l ++ k.more) h.are ∙ append_assoc a h.more k.more);
  plain = All-append IsBare h.more k.more h.plain k.plain;
}

pub gains-one : (lines longer : List LogLine) (line : LogLine) → longer ≡ lines ++ line ∷ [] → IsBare line → Gains lines longer
gains-one lines longer line e plain = record { more = line ∷ []; are = e; plain = All-cons IsBare line [] plain (All-nil IsBare) }

-- ---- lines that are implied

pub served-none : (instance : Instance) (lines : List LogLine) → AreServed instance (length lines) lines
served-none instance lines n line low at = absurd (omega (arith, low, slice_get_within lines n line at))

pub served-same : (instance : Instance) (lines longer : List LogLine) → longer ≡ lines → AreServed instance (length lines) longer
served-same instance lines longer same = subst (λ ls. AreServed instance (length lines) ls) (sym same) (served-none instance lines)

pub served-trans : (instance : Instance) (a b c : List LogLine) → Gains b c → AreServed instance (length a) b → AreServed instance (length b) c → AreServed instance (length a) c
served-trans instance a b c gains h k n line low at = ⊎_elim
    (λ early. h n line low (get-front b gains.more n line early (subst (λ ls. slice_get ls n ≡ Some line) gains.are at)))
    (λ late. k n line late at)
    (cases_lt n (length b))

pub served-one : (instance : Instance) (lines longer : List LogLine) (line : LogLine) → longer ≡ lines ++ line ∷ [] → IsServedContent instance (content_of line) → IsTagFor instance line.tag → AreServed instance (length lines) longer
served-one instance lines longer line e served own n other low at =
    let there : slice_get (lines ++ line ∷ []) n ≡ Some other = subst (λ ls. slice_get ls n ≡ Some other) e at in
    ⊎_elim
    (λ early. absurd (omega (arith, low, early)))
    (λ last. subst (λ (l : LogLine). IsServedContent instance (content_of l) × IsTagFor instance l.tag) (last-is lines line other n last there) (served, own))
    (front-or-last lines line n other there)
