-- How far two lists of literals are merged.
use Rattle.std.proofs.Common.{◌≡◌, ◌⊎◌, ℕ, ◌+◌, ◌<◌, ◌≤◌, List, [], ◌∷◌, ◌++◌, length, get_or, drop, All, Contains, sym, subst, inl, inr, ⊎_elim, arith}
use Rattle.std.proofs.lemmas.List.{append-nil, drop_all, drop_more}
use Rattle.std.proofs.lemmas.List.Elements.{All-nil, All-cons, All-head, All-tail, All-push, All-append, All-weaker, Contains-push, Contains-append_left, Contains-append_right}
use Rattle.std.proofs.lemmas.List.Quantifiers.{all_pairs_push}
use Rattle.fapp_model.specs.declared.literal.Literal.{Literal}
use Rattle.nogood.specs.Literals.{Agree, IsAscending, IsJoin}
use Rattle.fapp_model.proofs.Members.{All-from_members, at_front, behind, front_or_behind, no_member}
use Rattle.fapp_model.proofs.InOrder.{pairs-nil, pairs-head, pairs-tail, pairs-append}

-- all of a list's paths are above a literal's
abbrev pub IsUnder : List Literal → Literal → Type 0
IsUnder rest a = All (λ b. a.path < b.path) rest

-- the literals so far, where some of the left list and some of the right one are to come
pub record Merging (left right more others joined : List Literal) : Type 0 where
  pub ascending : IsAscending joined
  pub more_ascending : IsAscending more
  pub others_ascending : IsAscending others
  pub has_left : (a : Literal) → Contains left a → Contains joined a ⊎ Contains more a
  pub has_right : (a : Literal) → Contains right a → Contains joined a ⊎ Contains others a
  pub only : All (λ a. Contains left a ⊎ Contains right a) joined
  pub of_left : (a : Literal) → Contains more a → Contains left a
  pub of_right : (a : Literal) → Contains others a → Contains right a
  pub under_more : All (IsUnder more) joined
  pub under_others : All (IsUnder others) joined

pub begin : (left right : List Literal) → IsAscending left → IsAscending right → Merging left right left right []
begin left right up vp = record {
  ascending = pairs-nil (λ a b. a.path < b.path);
  more_ascending = up;
  others_ascending = vp;
  has_left = λ a m. inr m;
  has_right = λ a m. inr m;
  only = All-nil (λ a. Contains left a ⊎ Contains right a);
  of_left = λ a m. m;
  of_right = λ a m. m;
  under_more = All-nil (IsUnder left);
  under_others = All-nil (IsUnder right);
}

turn : (left right more others joined : List Literal) → Merging left right more others joined → Merging right left others more joined
turn left right more others joined h = record {
  ascending = h.ascending;
  more_ascending = h.others_ascending;
  others_ascending = h.more_ascending;
  has_left = h.has_right;
  has_right = h.has_left;
  only = All-weaker (λ a. Contains left a ⊎ Contains right a) (λ a. Contains right a ⊎ Contains left a)
      (λ a m. ⊎_elim (λ l. inr l) (λ r. inl r) m) joined h.only;
  of_left = h.of_right;
  of_right = h.of_left;
  under_more = h.under_others;
  under_others = h.under_more;
}

-- a literal stands at the front, or it is still to come, or it stands in front of what is to come
after_push : (a : Literal) (joined rest : List Literal) (x : Literal) → Contains joined x ⊎ Contains (a ∷ rest) x → Contains (joined ++ a ∷ []) x ⊎ Contains rest x
after_push a joined rest x m = ⊎_elim
    (λ had. inl (Contains-append_left joined (a ∷ []) x had))
    (λ m. ⊎_elim
    (λ same. inl (subst (λ z. Contains (joined ++ a ∷ []) z) same (Contains-push joined a)))
    (λ later. inr later)
    (front_or_behind a rest x m))
    m

still : (a : Literal) (joined rest : List Literal) (x : Literal) → Contains joined x ⊎ Contains rest x → Contains (joined ++ a ∷ []) x ⊎ Contains rest x
still a joined rest x m = ⊎_elim (λ had. inl (Contains-append_left joined (a ∷ []) x had)) (λ later. inr later) m

before : (a : Literal) (rest joined : List Literal) → All (IsUnder (a ∷ rest)) joined → All (λ x. x.path < a.path) joined
before a rest joined h = All-weaker (IsUnder (a ∷ rest)) (λ x. x.path < a.path) (λ x u. All-head (λ b. x.path < b.path) a rest u) joined h

behind_it : (a : Literal) (rest joined : List Literal) → All (IsUnder (a ∷ rest)) joined → All (IsUnder rest) joined
behind_it a rest joined h = All-weaker (IsUnder (a ∷ rest)) (IsUnder rest) (λ x u. All-tail (λ b. x.path < b.path) a rest u) joined h

push-ascending : (a : Literal) (rest joined : List Literal) → IsAscending joined → All (IsUnder (a ∷ rest)) joined → IsAscending (joined ++ a ∷ [])
push-ascending a rest joined up under = all_pairs_push (λ x y. x.path < y.path) joined a up (before a rest joined under)

pub take_left : (left right : List Literal) (a : Literal) (more : List Literal) (b : Literal) (others joined : List Literal) → a.path < b.path →
    Merging left right (a ∷ more) (b ∷ others) joined → Merging left right more (b ∷ others) (joined ++ a ∷ [])
take_left left right a more b others joined below h = record {
  ascending = push-ascending a more joined h.ascending h.under_more;
  more_ascending = pairs-tail (λ x y. x.path < y.path) a more h.more_ascending;
  others_ascending = h.others_ascending;
  has_left = λ x m. after_push a joined more x (h.has_left x m);
  has_right = λ x m. still a joined (b ∷ others) x (h.has_right x m);
  only = All-push (λ x. Contains left x ⊎ Contains right x) joined a h.only (inl (h.of_left a (at_front a more)));
  of_left = λ x m. h.of_left x (behind a more x m);
  of_right = h.of_right;
  under_more = All-push (IsUnder more) joined a (behind_it a more joined h.under_more) (pairs-head (λ x y. x.path < y.path) a more h.more_ascending);
  under_others = All-push (IsUnder (b ∷ others)) joined a h.under_others
      (All-cons (λ y. a.path < y.path) b others below
      (All-weaker (λ y. b.path < y.path) (λ y. a.path < y.path) (λ y l. omega arith) others (pairs-head (λ x y. x.path < y.path) b others h.others_ascending)));
}

pub take_right : (left right : List Literal) (a : Literal) (more : List Literal) (b : Literal) (others joined : List Literal) → b.path < a.path →
    Merging left right (a ∷ more) (b ∷ others) joined → Merging left right (a ∷ more) others (joined ++ b ∷ [])
take_right left right a more b others joined below h =
    turn right left others (a ∷ more) (joined ++ b ∷ []) (take_left right left b others a more joined below (turn left right (a ∷ more) (b ∷ others) joined h))

both : (left right : List Literal) (a : Literal) (more others joined : List Literal) →
    Merging left right (a ∷ more) (a ∷ others) joined → Merging left right more others (joined ++ a ∷ [])
both left right a more others joined h = record {
  ascending = push-ascending a more joined h.ascending h.under_more;
  more_ascending = pairs-tail (λ x y. x.path < y.path) a more h.more_ascending;
  others_ascending = pairs-tail (λ x y. x.path < y.path) a others h.others_ascending;
  has_left = λ x m. after_push a joined more x (h.has_left x m);
  has_right = λ x m. after_push a joined others x (h.has_right x m);
  only = All-push (λ x. Contains left x ⊎ Contains right x) joined a h.only (inl (h.of_left a (at_front a more)));
  of_left = λ x m. h.of_left x (behind a more x m);
  of_right = λ x m. h.of_right x (behind a others x m);
  under_more = All-push (IsUnder more) joined a (behind_it a more joined h.under_more) (pairs-head (λ x y. x.path < y.path) a more h.more_ascending);
  under_others = All-push (IsUnder others) joined a (behind_it a others joined h.under_others) (pairs-head (λ x y. x.path < y.path) a others h.others_ascending);
}

pub take_both : (left right : List Literal) (a : Literal) (more : List Literal) (b : Literal) (others joined : List Literal) → Agree left right → a.path ≡ b.path →
    Merging left right (a ∷ more) (b ∷ others) joined → Merging left right more others (joined ++ a ∷ [])
take_both left right a more b others joined agree same h =
    let e : b ≡ a = sym (agree a b (h.of_left a (at_front a more)) (h.of_right b (at_front b others)) same) in
    both left right a more others joined (subst (λ z. Merging left right (a ∷ more) (z ∷ others) joined) e h)

in_all : (joined rest : List Literal) (x : Literal) → Contains joined x ⊎ Contains rest x → Contains (joined ++ rest) x
in_all joined rest x m = ⊎_elim (Contains-append_left joined rest x) (Contains-append_right joined rest x) m

in_first : (joined rest : List Literal) (x : Literal) → Contains joined x ⊎ Contains [] x → Contains (joined ++ rest) x
in_first joined rest x m = ⊎_elim (Contains-append_left joined rest x) (λ none. absurd (no_member x none)) m

pub end_left : (left right more joined : List Literal) → Merging left right more [] joined → IsJoin left right (joined ++ more)
end_left left right more joined h = record {
  ascending = pairs-append (λ x y. x.path < y.path) joined more h.ascending h.more_ascending h.under_more;
  has_left = All-from_members (Contains (joined ++ more)) left (λ x m. in_all joined more x (h.has_left x m));
  has_right = All-from_members (Contains (joined ++ more)) right (λ x m. in_first joined more x (h.has_right x m));
  only = All-append (λ x. Contains left x ⊎ Contains right x) joined more h.only
      (All-from_members (λ x. Contains left x ⊎ Contains right x) more (λ x m. inl (h.of_left x m)));
}

pub end_right : (left right others joined : List Literal) → Merging left right [] others joined → IsJoin left right (joined ++ others)
end_right left right others joined h =
    let turned = end_left right left others joined (turn left right [] others joined h) in
    record {
      ascending = turned.ascending;
      has_left = turned.has_right;
      has_right = turned.has_left;
      only = All-weaker (λ x. Contains right x ⊎ Contains left x) (λ x. Contains left x ⊎ Contains right x)
          (λ x m. ⊎_elim (λ l. inr l) (λ r. inl r) m) (joined ++ others) turned.only;
    }

-- the same by places
module _ (left right : List Literal) (i j : ℕ) (d : Literal) (joined : List Literal) (inside_left : i < length left) (inside_right : j < length right) where
  abbrev a : Literal
  a = get_or left i d

  abbrev b : Literal
  b = get_or right j d

  opened : Merging left right (drop i left) (drop j right) joined → Merging left right (a ∷ drop (i + 1) left) (b ∷ drop (j + 1) right) joined
  opened h =
      subst (λ s. Merging left right (a ∷ drop (i + 1) left) s joined) (drop_more right j d inside_right)
      (subst (λ r. Merging left right r (drop j right) joined) (drop_more left i d inside_left) h)

  pub step_left : a.path < b.path → Merging left right (drop i left) (drop j right) joined → Merging left right (drop (i + 1) left) (drop j right) (joined ++ a ∷ [])
  step_left below h =
      subst (λ s. Merging left right (drop (i + 1) left) s (joined ++ a ∷ [])) (sym (drop_more right j d inside_right))
      (take_left left right a (drop (i + 1) left) b (drop (j + 1) right) joined below (opened h))

  pub step_right : b.path < a.path → Merging left right (drop i left) (drop j right) joined → Merging left right (drop i left) (drop (j + 1) right) (joined ++ b ∷ [])
  step_right below h =
      subst (λ r. Merging left right r (drop (j + 1) right) (joined ++ b ∷ [])) (sym (drop_more left i d inside_left))
      (take_right left right a (drop (i + 1) left) b (drop (j + 1) right) joined below (opened h))

  pub step_both : Agree left right → a.path ≡ b.path → Merging left right (drop i left) (drop j right) joined → Merging left right (drop (i + 1) left) (drop (j + 1) right) (joined ++ a ∷ [])
  step_both agree same h = take_both left right a (drop (i + 1) left) b (drop (j + 1) right) joined agree same (opened h)

-- where one of the lists has come to its end
pub finish : (left right : List Literal) (i j : ℕ) (joined : List Literal) → (length left ≤ i) ⊎ (length right ≤ j) →
    Merging left right (drop i left) (drop j right) joined → IsJoin left right (joined ++ drop i left ++ drop j right)
finish left right i j joined (inl past) h =
    let none : drop i left ≡ [] = drop_all i left past in
    rw (none, append-nil) (end_right left right (drop j right) joined (subst (λ r. Merging left right r (drop j right) joined) none h))
finish left right i j joined (inr past) h =
    let none : drop j right ≡ [] = drop_all j right past in
    rw (none, append-nil) (end_left left right (drop i left) joined (subst (λ s. Merging left right (drop i left) s joined) none h))
