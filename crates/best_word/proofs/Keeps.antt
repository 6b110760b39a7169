-- Each step on the word keeps the rule.
use Rattle.std.proofs.Common.{◌≡◌, ◌≢◌, ◌⊎◌, inl, inr, ⊎_elim, ℕ, ◌+◌, ◌-◌, ◌/◌, ◌≤◌, false, IsTrue, List, [], ◌∷◌, ◌++◌, get_or, set, min, sym, refl, ap, ◌∙◌, subst, arith, le_trans, le_refl, length-set, get_or-set_same, cond}
use mathlib.Core.Logic.{dite}
use mathlib.Core.Option.{none, some, some-injective, some-ne-none}
use native.Mathlib.Decide.{dec_le}
use lib.ListN.{get_elem?}
use Rattle.std.specs.List.{Contains}
use Rattle.std.proofs.lemmas.List.Elements.{All-nil, All-append, All-push, All-weaker, Contains-append_left, Contains-append_right, Contains-push}
use Rattle.atomic_table.specs.Table.{Me, step, keeps, stepped, Allows, Splits, Joins, Final, Seen}
use Rattle.atomic_table.proofs.Lists.{set_else}
use Rattle.fapp_model.specs.Tags.{is_code}
use Rattle.seat_laws.specs.declared.TheConstants.{WHOLE_SHARE}
use Rattle.seat_laws.specs.Shares.{Live}
use Rattle.seat_laws.proofs.Views.{set_at, each_set, some_set, shared_set, each_split, some_split, shared_split, each_join, some_join, shared_join, part_live, alone}
use Rattle.seat_laws.proofs.Sums.{one_within}
use Rattle.best_word.specs.declared.view.BestView.{BestView}
use Rattle.best_word.specs.Bound.{IsBestWord, IsCodeFor, Knows, Words, word_of, IsSeatOffer, is_spent, share_of, top_code, kept_half, given_half, after_join, spent_view, after_load, after_offer}
use Rattle.best_word.specs.BestSteps.{LoadsBest, Lowers, HasPart}
use Rattle.best_word.specs.Seats.{IsLeastOf}

-- a lower word is known by whoever knew the word
knows-lower : (levels word n : ℕ) → n ≤ word → (v : BestView) → Knows levels word v → Knows levels n v
knows-lower levels word n low v k = record { same_levels = k.same_levels; below = le_trans low k.below; most = k.most; offers = k.offers; found = k.found }

-- One live view changes, with the same share, and the word does not rise.
kept : (levels : ℕ) (s : Words) (b : IsBestWord levels s) (id : ℕ) (v w : BestView) (n : ℕ) → Live is_spent s.views id v → w.spent ≡ false → w.share ≡ v.share → IsCodeFor levels n → n ≤ word_of s → Knows levels n w
    → ((n ≡ word_of s) ⊎ Contains w.offers n) → (Contains v.offers (word_of s) → Contains w.offers (word_of s))
    → IsBestWord levels (stepped s 0 n id [] w keeps)
kept levels s b id v w n l un sh code low known from more =
    let is : get_or (set s.words 0 n) 0 0 ≡ n = get_or-set_same s.words 0 n 0 (let one = b.one in omega arith) in
    record {
      one = length-set s.words 0 n ∙ b.one;
      tag = subst (IsCodeFor levels) (sym is) code;
      offered = rw is (⊎_elim
          (λ (same : n ≡ word_of s). ⊎_elim
          (λ t. inl (same ∙ t))
          (λ (o : IsSeatOffer s.views (word_of s)). inr (subst (IsSeatOffer (set s.views id w)) (sym same) (some_set is_spent (λ u. Contains u.offers (word_of s)) s.views id v w l un more o)))
          b.offered)
          (λ c. inr (id, w, record { there = set_at s.views id v w l.there; unspent = un }, c))
          from);
      known = rw is (each_set is_spent (Knows levels (word_of s)) (Knows levels n) s.views id w (knows-lower levels (word_of s) n low) known b.known);
      shares = shared_set is_spent share_of WHOLE_SHARE s.views id v w b.shares l un sh;
    }

live_me : (s : Words) (id : ℕ) (v : BestView) → v.spent ≡ false → get_elem? s.views id ≡ some v → Live is_spent s.views id v
live_me s id v un at = record { there = at; unspent = un }

-- the tags that a seat may find are those of its own levels
own-code : (levels n : ℕ) (v : BestView) → v.levels ≡ levels → IsCodeFor levels n → IsCodeFor v.levels n
own-code levels n v e c = subst (λ l. IsCodeFor l n) (sym e) c

pub looks : (levels slots id : ℕ) (me : Me (Unit {0}) BestView) → me.1 ≡ [] → me.0.spent ≡ false → Allows (IsBestWord levels) slots id me 0 (λ n. n) (LoadsBest (step slots 0 0 0 none) me)
looks levels slots id me empty un s b _ at _ =
    let n : ℕ = word_of s in
    let v : BestView = me.0 in
    let l : Live is_spent s.views id v = live_me s id v un at in
    let k = b.known id v l in
    let known : Knows levels n (after_load v n) = record {
      same_levels = k.same_levels;
      below = le_refl n;
      most = b.tag.most;
      offers = All-weaker (λ m. v.least ≤ m) (λ m. n ≤ m) (λ m h. le_trans k.below h) v.offers k.offers;
      found = All-push (λ m. n ≤ m) v.found n (All-weaker (λ m. v.least ≤ m) (λ m. n ≤ m) (λ m h. le_trans k.below h) v.found k.found) (le_refl n);
    } in (
      after_load v n,
      keeps,
      tt,
      kept levels s b id v (after_load v n) n l refl refl b.tag (le_refl n) known (inl refl) (λ c. c),
      (own-code levels n v k.same_levels b.tag, k.below, refl, refl),
    )

-- the lesser of two codes is a code
lesser-code : (levels n k : ℕ) → IsCodeFor levels n → IsCodeFor levels k → IsCodeFor levels (min n k)
lesser-code levels n k c d = dite (dec_le n k)
    (λ h. subst (IsCodeFor levels) (let e : n ≡ min n k = omega arith in e) c)
    (λ h. subst (IsCodeFor levels) (let e : k ≡ min n k = omega arith in e) d)

pub lowers : (levels slots id k : ℕ) (me : Me (Unit {0}) BestView) → me.1 ≡ [] → me.0.spent ≡ false → IsTrue (is_code k) → k ≤ top_code me.0.levels → Allows (IsBestWord levels) slots id me 0 (λ n. min n k) (Lowers (step slots 0 k 0 none) me)
lowers levels slots id k me empty un code small s b _ at _ =
    let n : ℕ = word_of s in
    let v : BestView = me.0 in
    let l : Live is_spent s.views id v = live_me s id v un at in
    let kn = b.known id v l in
    let m : ℕ = min n k in
    let mn : m ≤ n = omega arith in
    let mk : m ≤ k = omega arith in
    let offer : IsCodeFor levels k = record { tag = code; most = subst (λ l. k ≤ top_code l) kn.same_levels small } in
    let both : IsCodeFor levels m = lesser-code levels n k b.tag offer in
    let known : Knows levels m (after_offer v k n) = record {
      same_levels = kn.same_levels;
      below = le_refl m;
      most = both.most;
      offers = All-push (λ x. m ≤ x) v.offers k (All-weaker (λ x. v.least ≤ x) (λ x. m ≤ x) (λ x h. le_trans mn (le_trans kn.below h)) v.offers kn.offers) mk;
      found = All-push (λ x. m ≤ x) v.found n (All-weaker (λ x. v.least ≤ x) (λ x. m ≤ x) (λ x h. le_trans mn (le_trans kn.below h)) v.found kn.found) mn;
    } in (
      after_offer v k n,
      keeps,
      tt,
      kept levels s b id v (after_offer v k n) m l refl refl both mn known
          (dite (dec_le n k) (λ h. inl (let e : min n k ≡ n = omega arith in e)) (λ h. inr (subst (Contains (v.offers ++ k ∷ [])) (let e : k ≡ min n k = omega arith in e) (Contains-push v.offers k))))
          (λ c. Contains-append_left v.offers (k ∷ []) n c),
      (own-code levels n v kn.same_levels b.tag, kn.below, refl, refl),
    )

pub splits : (levels id : ℕ) (v : BestView) → v.spent ≡ false → 2 ≤ v.share → Splits (IsBestWord levels) id v (kept_half v) (given_half v)
splits levels id v un two s b at =
    let l : Live is_spent s.views id v = live_me s id v un at in
    let left : BestView = kept_half v in
    let right : BestView = given_half v in
    let k = b.known id v l in
    record {
      one = b.one;
      tag = b.tag;
      offered = ⊎_elim (λ t. inl t) (λ o. inr (some_split is_spent (λ u. Contains u.offers (word_of s)) s.views id v left right l refl (λ c. c) o)) b.offered;
      known = each_split is_spent (Knows levels (word_of s)) s.views id left right
          (record { same_levels = k.same_levels; below = k.below; most = k.most; offers = k.offers; found = k.found })
          (record { same_levels = k.same_levels; below = k.below; most = k.most; offers = All-nil (λ m. v.least ≤ m); found = All-nil (λ m. v.least ≤ m) })
          b.known;
      shares = shared_split is_spent share_of WHOLE_SHARE s.views id v left right b.shares l refl refl
          (let h : 1 ≤ v.share - v.share / 2 = omega arith in h) (let h : 1 ≤ v.share / 2 = omega arith in h) (let h : v.share - v.share / 2 + v.share / 2 ≡ v.share = omega arith in h);
    }

pub joins : (levels id : ℕ) (v : BestView) (other : ℕ) (w : BestView) → v.spent ≡ false → w.spent ≡ false → Joins (IsBestWord levels) id v other w (after_join v w) spent_view
joins levels id v other w unv unw s b at apart at' =
    let both : BestView = after_join v w in
    let l : Live is_spent s.views id v = live_me s id v unv at in
    let r : Live is_spent s.views other w = live_me s other w unw (sym (set_else s.views id other both apart) ∙ at') in
    let ne : id ≢ other = λ e. apart (sym e) in
    let kv = b.known id v l in
    let kw = b.known other w r in
    let m : ℕ = min v.least w.least in
    let mv : m ≤ v.least = omega arith in
    let mw : m ≤ w.least = omega arith in
    let bv : word_of s ≤ v.least = kv.below in
    let bw : word_of s ≤ w.least = kw.below in
    let tv : v.least ≤ top_code levels = kv.most in
    record {
      one = b.one;
      tag = b.tag;
      offered = ⊎_elim (λ t. inl t)
          (λ o. inr (some_join is_spent (λ u. Contains u.offers (word_of s)) s.views id other v w both spent_view ne l r refl
          (λ c. Contains-append_left v.offers w.offers (word_of s) c) (λ c. Contains-append_right v.offers w.offers (word_of s) c) o))
          b.offered;
      known = each_join is_spent (Knows levels (word_of s)) s.views id other both spent_view refl
          (record {
            same_levels = kv.same_levels;
            below = (let h : word_of s ≤ m = omega arith in h);
            most = le_trans mv tv;
            offers = All-append (λ n. m ≤ n) v.offers w.offers (All-weaker (λ n. v.least ≤ n) (λ n. m ≤ n) (λ n h. le_trans mv h) v.offers kv.offers) (All-weaker (λ n. w.least ≤ n) (λ n. m ≤ n) (λ n h. le_trans mw h) w.offers kw.offers);
            found = All-append (λ n. m ≤ n) v.found w.found (All-weaker (λ n. v.least ≤ n) (λ n. m ≤ n) (λ n h. le_trans mv h) v.found kv.found) (All-weaker (λ n. w.least ≤ n) (λ n. m ≤ n) (λ n h. le_trans mw h) w.found kw.found);
          })
          b.known;
      shares = shared_join is_spent share_of WHOLE_SHARE s.views id other v w both spent_view b.shares ne l r refl refl refl;
    }

pub has_part : (levels slots id : ℕ) (me : Me (Unit {0}) BestView) → me.1 ≡ [] → me.0.spent ≡ false → Allows (IsBestWord levels) slots id me 0 (λ n. n) (HasPart (step slots 0 0 0 none) me)
has_part levels slots id me empty un s b _ at _ =
    let n : ℕ = word_of s in
    let v : BestView = me.0 in
    let l : Live is_spent s.views id v = live_me s id v un at in
    let k = b.known id v l in
    let within = one_within (λ (u : BestView). cond u.spent 0 u.share) s.views id v at in
    let part = part_live is_spent share_of v un in
    let sum = b.shares.sum in (
      v,
      keeps,
      tt,
      kept levels s b id v v n l un refl b.tag (le_refl n) k (inl refl) (λ c. c),
      (omega arith, refl),
    )

pub closes : (levels id : ℕ) (v : BestView) (words : List ℕ) (slots : List (Unit {0})) (n : ℕ) → v.spent ≡ false → v.share ≡ WHOLE_SHARE → Final (Seen (IsBestWord levels) id v) words slots → get_elem? words 0 ≡ some n → IsLeastOf v n
closes levels id v words slots n un all f at =
    let s : Words = f.0 in
    let b : IsBestWord levels s = f.1.0 in
    let l : Live is_spent s.views id v = live_me s id v un f.1.1 in
    let k = b.known id v l in
    let is : word_of s ≡ n = first_word s.words n (ap (λ (ws : List ℕ). get_elem? ws 0) f.2 ∙ at) in
    subst (IsLeastOf v) is (record {
      tag = own-code levels (word_of s) v k.same_levels b.tag;
      from = ⊎_elim
          (λ t. inl (t ∙ ap top_code (sym k.same_levels)))
          (λ (o : IsSeatOffer s.views (word_of s)). inr (subst (λ (u : BestView). Contains u.offers (word_of s)) (sym (alone is_spent share_of WHOLE_SHARE s.views b.shares id o.0 v o.1 l all o.2)) o.3))
          b.offered;
      least = k.below;
      offers = All-weaker (λ m. v.least ≤ m) (λ m. word_of s ≤ m) (λ m h. le_trans k.below h) v.offers k.offers;
      found = All-weaker (λ m. v.least ≤ m) (λ m. word_of s ≤ m) (λ m h. le_trans k.below h) v.found k.found;
    })
  where
    first_word : (ws : List ℕ) (k : ℕ) → get_elem? ws 0 ≡ some k → get_or ws 0 0 ≡ k
    first_word [] k e = absurd (some-ne-none k (sym e))
    first_word (x ∷ xs) k e = some-injective x k e
