-- The ticks of one choice after another.
use Rattle.std.proofs.Common.{◌≡◌, ◌≢◌, ◌⊎◌, ℕ, zero, suc, ◌+◌, ◌-◌, ◌<◌, ◌≤◌, List, [], ◌∷◌, ◌++◌, length, take, All, Contains, Some, refl, sym, ap, subst, ◌∙◌, inl, inr, ⊎_elim, arith, append_assoc, append-nil}
use Rattle.std.specs.List.{slice_get}
use Rattle.std.proofs.lemmas.Bool.{cases_lt}
use Rattle.std.proofs.lemmas.List.{length-append, take-append-le, take_all}
use Rattle.std.proofs.lemmas.List.Elements.{All-append, All-contains, All-cons, All-nil, Contains-append_left, Contains-append_right}
use Rattle.fapp_model.specs.declared.instance.Instance.{Instance}
use Rattle.fapp_model.specs.declared.literal.Literal.{Literal}
use Rattle.fapp_model.specs.Costs.{cost}
use Rattle.fapp_model.specs.Tags.{code_of}
use Rattle.fapp_model.specs.search.Dead.{Dead}
use Rattle.fapp_model.specs.search.Jobs.{target}
use Rattle.fapp_model.specs.search.Partials.{HasAll, literal}
use Rattle.fapp_model.specs.search.Prefixes.{GoesOn, IsPrefix}
use Rattle.tries_laws.specs.TriesLaws.{AreTried}
use Rattle.fapp_model.proofs.Members.{All-from_members, at_front}
use Rattle.search_log.specs.Contents.{KnownRow}
use Rattle.search_log.proofs.ByPlace.{get-front}
use Rattle.search_log.specs.Bounds.{BoundState}
use Rattle.settle_laws.specs.Stops.{AreStops, ComesAfter, ComesBefore, IsUndecided, stop_at}
use Rattle.settle_laws.specs.Ticks.{HaveCountLines, AreOffered, IsEarlier, OffersCost, StandBehind, Ticks, TicksBelow}
use Rattle.settle_laws.specs.Worlds.{Keeps, KeepsAtMost, World}
use Rattle.settle_laws.proofs.Adding.{has-same, pairs-join}
use Rattle.settle_laws.proofs.NextPaths.{get-contains}
use Rattle.settle_laws.proofs.StopJoin.{both-counted, both-offered, no-stops, offered-later, one-stop, stops-join, stops-later}

pub none-tried : (instance : Instance) (level : ℕ) (prefix : List Literal) → AreTried instance (target level) prefix []
none-tried instance level prefix = record {
  apart = λ i j d less small. absurd (omega arith);
  prefixes = All-nil (IsPrefix instance);
  go_on = All-nil (GoesOn prefix);
  alive = All-nil (λ literals. Dead instance (target level) literals → ⊥);
  closed = All-nil (λ literals. length prefix < length literals → Contains [] (take (length literals - 1) literals));
}

goes-on-itself : (literals : List Literal) → GoesOn literals literals
goes-on-itself literals = ([], simp append-nil)

pub one-tried : (instance : Instance) (level : ℕ) (prefix : List Literal) → IsPrefix instance prefix → (Dead instance (target level) prefix → ⊥) → AreTried instance (target level) prefix (prefix ∷ [])
one-tried instance level prefix is alive = record {
  apart = λ i j d less small. absurd (omega arith);
  prefixes = All-cons (IsPrefix instance) prefix [] is (All-nil (IsPrefix instance));
  go_on = All-cons (GoesOn prefix) prefix [] (goes-on-itself prefix) (All-nil (GoesOn prefix));
  alive = All-cons (λ literals. Dead instance (target level) literals → ⊥) prefix [] alive (All-nil (λ literals. Dead instance (target level) literals → ⊥));
  closed = let P : List Literal → Type 0 = λ literals. length prefix < length literals → Contains (prefix ∷ []) (take (length literals - 1) literals) in
      All-cons P prefix [] (λ l. absurd (omega arith)) (All-nil P);
}

pub only-behind : (prefix : List Literal) → StandBehind prefix (prefix ∷ [])
only-behind prefix zero literals at longer = let e : prefix ≡ literals = cc in absurd (omega (arith, ap length e))
only-behind prefix (suc place) literals at longer = cc

-- a stop where the search is
pub itself-before : (w : World) (literals : List Literal) → ComesBefore w (stop_at w literals)
itself-before w literals = record { told = omega arith; copied = has-same w.shared.copied }

module _ (instance : Instance) (level : ℕ) (prefix : List Literal) (old new : World) where
  -- no tick fell, and none was refused
  abbrev pub no-ticks : new.fuel ≡ old.fuel → new.bound.least ≡ old.bound.least → Ticks instance level prefix old new []
  no-ticks same least = record {
    tried = [];
    asked = [];
    asked_is = refl;
    taken = omega arith;
    are = none-tried instance level prefix;
    behind = λ place literals at longer. cc;
    stops = no-stops instance level old new;
    last = All-nil (λ literals. IsUndecided instance level (stop_at new literals));
    offers = inl least;
  }

  -- one fell, or was refused, at a prefix
  module _ (is : IsPrefix instance prefix) (alive : Dead instance (target level) prefix → ⊥) where
    -- at some stop
    abbrev pub one-tick : AreStops instance level old new (prefix ∷ []) → old.fuel ≡ new.fuel + 1 → (new.bound.least ≡ old.bound.least) ⊎ OffersCost instance (prefix ∷ []) new → Ticks instance level prefix old new []
    one-tick stops took offers = record {
      tried = prefix ∷ [];
      asked = prefix ∷ [];
      asked_is = refl;
      taken = omega arith;
      are = one-tried instance level prefix is alive;
      behind = only-behind prefix;
      stops = stops;
      last = All-nil (λ literals. IsUndecided instance level (stop_at new literals));
      offers = offers;
    }

    abbrev pub one-refused : ComesAfter old (stop_at new prefix) → IsUndecided instance level (stop_at new prefix) → new.fuel ≡ old.fuel → new.bound.least ≡ old.bound.least → Ticks instance level prefix old new (prefix ∷ [])
    one-refused after undecided same least = record {
      tried = [];
      asked = prefix ∷ [];
      asked_is = refl;
      taken = omega arith;
      are = one-tried instance level prefix is alive;
      behind = only-behind prefix;
      stops = one-stop instance level old new (stop_at new prefix) undecided after (itself-before new prefix);
      last = All-cons (λ literals. IsUndecided instance level (stop_at new literals)) prefix [] undecided (All-nil (λ literals. IsUndecided instance level (stop_at new literals)));
      offers = inl least;
    }

    -- and the choices of the next path come next
    pub first-tick : AreStops instance level old new (prefix ∷ []) → AreOffered instance (prefix ∷ []) new.bound.least → HaveCountLines instance (prefix ∷ []) old.log.lines new.log.lines → (path : ℕ) → old.fuel ≡ new.fuel + 1 → new.bound.least ≡ old.bound.least → TicksBelow instance level prefix path 0 old new
    first-tick stops offered counted path took least = record {
      ticks = one-tick stops took (inl least);
      begins = at_front prefix [];
      each = All-cons (IsEarlier prefix path 0) prefix [] (inl refl) (All-nil (IsEarlier prefix path 0));
      offered = offered;
      counted = counted;
    }

pub told-same : (b c : BoundState) → b ≡ c → b.told ≤ c.told
told-same b c e = omega (arith, ap (λ (s : BoundState). s.told) e)

pub rows-same : (xs ys : List KnownRow) → xs ≡ ys → All (Contains xs) ys
rows-same xs ys e = subst (λ zs. All (Contains zs) ys) (sym e) (has-same ys)

pub last-later : (instance : Instance) (level : ℕ) (new later : World) (refused : List (List Literal)) → later.bound ≡ new.bound → later.shared.copied ≡ new.shared.copied → All (λ literals. IsUndecided instance level (stop_at new literals)) refused → All (λ literals. IsUndecided instance level (stop_at later literals)) refused
last-later instance level new later refused bound copied h = All-from_members (λ literals. IsUndecided instance level (stop_at later literals)) refused (λ literals m.
    subst (λ (b : BoundState). IsUndecided instance level (record { prefix = literals; told = b.told; copied = later.shared.copied })) (sym bound)
    (subst (λ rows. IsUndecided instance level (record { prefix = literals; told = new.bound.told; copied = rows })) (sym copied)
    (All-contains (λ literals. IsUndecided instance level (stop_at new literals)) refused literals h m)))

-- the world changed since in nothing that ticks speak of
module _ (instance : Instance) (tried : List (List Literal)) (new later : World) (better : (tag : ℕ) → KeepsAtMost new.log.best tag → KeepsAtMost later.log.best tag) where
  pub cost-later : later.bound.least ≡ new.bound.least → OffersCost instance tried new → OffersCost instance tried later
  cost-later same o = record { plan = o.plan; prefix = o.prefix; ticked = o.ticked; whole = o.whole; offered = same ∙ o.offered; kept = better (code_of (cost instance o.plan)) o.kept }

abbrev pub ticks-later : (instance : Instance) (level : ℕ) (prefix : List Literal) (old new later : World) (refused : List (List Literal)) → later.fuel ≡ new.fuel → later.bound ≡ new.bound → later.shared.copied ≡ new.shared.copied →
    ((tag : ℕ) → KeepsAtMost new.log.best tag → KeepsAtMost later.log.best tag) → Ticks instance level prefix old new refused → Ticks instance level prefix old later refused
ticks-later instance level prefix old new later refused fuel bound copied better t = record {
  tried = t.tried;
  asked = t.asked;
  asked_is = t.asked_is;
  taken = omega (arith, t.taken);
  are = t.are;
  behind = t.behind;
  stops = stops-later instance level old new later t.asked (told-same (later.bound) (new.bound) bound) (rows-same later.shared.copied new.shared.copied copied) t.stops;
  last = last-later instance level new later refused bound copied t.last;
  offers = ⊎_elim (λ same. inl (ap (λ (b : BoundState). b.least) bound ∙ same)) (λ (o : OffersCost instance t.tried new). inr (cost-later instance t.tried new later better (ap (λ (b : BoundState). b.least) bound) o)) t.offers;
}

module _ {X : Type 0} where
  -- the first element behind a front
  seam : (xs : List X) (a : X) (ys : List X) (b : X) (zs : List X) → xs ++ (a ∷ ys) ≡ xs ++ (b ∷ zs) → a ≡ b
  seam [] a ys b zs e = cc
  seam (x ∷ xs) a ys b zs e = seam xs a ys b zs (let f : xs ++ (a ∷ ys) ≡ xs ++ (b ∷ zs) = cc in f)

goes-on-longer : (prefix : List Literal) (a : Literal) (lits : List Literal) → GoesOn (prefix ++ a ∷ []) lits → (more : List Literal) × (lits ≡ prefix ++ (a ∷ more))
goes-on-longer prefix a lits h = (h.0, h.1 ∙ append_assoc prefix (a ∷ []) h.0)

apart-from : (prefix : List Literal) (path index : ℕ) (x y : List Literal) → IsEarlier prefix path index x → GoesOn (prefix ++ literal path index ∷ []) y → x ≢ y
apart-from prefix path index x y (inl e) h same =
    let long = goes-on-longer prefix (literal path index) y h in
    let count : length prefix ≡ length (prefix ++ (literal path index ∷ long.0)) = ap length (sym e ∙ (same ∙ long.1)) in
    absurd (omega (arith, length-append prefix (literal path index ∷ long.0)))
apart-from prefix path index x y (inr h) k same =
    let one = goes-on-longer prefix (literal path h.0) x h.2 in
    let two = goes-on-longer prefix (literal path index) y k in
    let meet : literal path h.0 ≡ literal path index = seam prefix (literal path h.0) one.0 (literal path index) two.0 (sym one.1 ∙ (same ∙ two.1)) in
    let equal : h.0 ≡ index = ap (λ (a : Literal). a.choice) meet in
    let less = h.1 in absurd (omega arith)

front-of : (prefix : List Literal) (a : Literal) → take (length (prefix ++ a ∷ []) - 1) (prefix ++ a ∷ []) ≡ prefix
front-of prefix a =
    let short : length (prefix ++ a ∷ []) - 1 ≡ length prefix = omega (arith, length-append prefix (a ∷ [])) in
    ap (λ n. take n (prefix ++ a ∷ [])) short ∙ (take-append-le (length prefix) prefix (a ∷ []) (omega arith) ∙ take_all (length prefix) prefix (omega arith))

by-rest : (longer rest x : List Literal) → x ≡ longer ++ rest → length x ≤ length longer → x ≡ longer
by-rest longer [] x e short = e ∙ append-nil longer
by-rest longer (a ∷ rest) x e short = absurd (omega (arith, ap length e, length-append longer (a ∷ rest)))

parent-in : (prefix : List Literal) (a : Literal) (xs ys : List (List Literal)) (x : List Literal) → Contains xs prefix → GoesOn (prefix ++ a ∷ []) x → (length (prefix ++ a ∷ []) < length x → Contains ys (take (length x - 1) x)) → Contains (xs ++ ys) (take (length x - 1) x)
parent-in prefix a xs ys x begins h closed = ⊎_elim
    (λ l. Contains-append_right xs ys (take (length x - 1) x) (closed l))
    (λ g. subst (λ z. Contains (xs ++ ys) (take (length z - 1) z)) (sym (by-rest (prefix ++ a ∷ []) h.0 x h.1 g))
    (subst (λ z. Contains (xs ++ ys) z) (sym (front-of prefix a)) (Contains-append_left xs ys prefix begins)))
    (cases_lt (length (prefix ++ a ∷ [])) (length x))

earlier-more : (prefix : List Literal) (path index : ℕ) (x : List Literal) → IsEarlier prefix path index x → IsEarlier prefix path (index + 1) x
earlier-more prefix path index x (inl e) = inl e
earlier-more prefix path index x (inr h) = inr (h.0, (let less = h.1 in omega arith), h.2)

module _ {X : Type 0} where
  -- what stands behind a front
  behind-front : (xs ys : List X) (n : ℕ) (x : X) → length xs ≤ n → slice_get (xs ++ ys) n ≡ Some x → (k : ℕ) × (slice_get ys k ≡ Some x) × (take n (xs ++ ys) ≡ xs ++ take k ys)
  behind-front [] ys n x l at = (n, at, refl)
  behind-front (y ∷ xs) ys zero x l at = absurd (omega arith)
  behind-front (y ∷ xs) ys (suc n) x l at = let r = behind-front xs ys n x (omega arith) at in (r.0, r.1, ap (λ zs. y ∷ zs) r.2)

-- the ticks at a choice after those at the choices before it
module _ (instance : Instance) (level : ℕ) (prefix : List Literal) (path index : ℕ) (old here new : World) (before : Keeps instance old here) (after : Keeps instance here new) (refused : List (List Literal))
    (a : TicksBelow instance level prefix path index old here) (b : Ticks instance level (prefix ++ literal path index ∷ []) here new refused) where
  abbrev longer : List Literal
  longer = prefix ++ literal path index ∷ []

  pub join-all : AreTried instance (target level) prefix (a.ticks.asked ++ b.asked)
  join-all =
      let xs = a.ticks.asked in
      let ys = b.asked in
      let closed : List (List Literal) → List Literal → Type 0 = λ all lits. length prefix < length lits → Contains all (take (length lits - 1) lits) in
      record {
        apart = pairs-join (λ x y. x ≢ y) xs ys a.ticks.are.apart b.are.apart (λ x y l r. apart-from prefix path index x y
            (All-contains (IsEarlier prefix path index) xs x a.each l) (All-contains (GoesOn longer) ys y b.are.go_on r));
        prefixes = All-append (IsPrefix instance) xs ys a.ticks.are.prefixes b.are.prefixes;
        go_on = All-append (GoesOn prefix) xs ys a.ticks.are.go_on (All-from_members (GoesOn prefix) ys (λ x m.
            let long = goes-on-longer prefix (literal path index) x (All-contains (GoesOn longer) ys x b.are.go_on m) in (literal path index ∷ long.0, long.1)));
        alive = All-append (λ x. Dead instance (target level) x → ⊥) xs ys a.ticks.are.alive b.are.alive;
        closed = All-append (closed (xs ++ ys)) xs ys
            (All-from_members (closed (xs ++ ys)) xs (λ x m l. Contains-append_left xs ys (take (length x - 1) x) (All-contains (closed xs) xs x a.ticks.are.closed m l)))
            (All-from_members (closed (xs ++ ys)) ys (λ x m l. parent-in prefix (literal path index) xs ys x a.begins (All-contains (GoesOn longer) ys x b.are.go_on m) (All-contains (λ lits. length longer < length lits → Contains ys (take (length lits - 1) lits)) ys x b.are.closed m)));
      }

  pub join-behind : StandBehind prefix (a.ticks.asked ++ b.asked)
  join-behind place literals at long = ⊎_elim
      (λ l. subst (λ zs. Contains zs (take (length literals - 1) literals)) (sym (take-append-le place a.ticks.asked b.asked (omega arith)))
      (a.ticks.behind place literals (get-front a.ticks.asked b.asked place literals l at) long))
      (λ g.
      let r = behind-front a.ticks.asked b.asked place literals g at in
      subst (λ zs. Contains zs (take (length literals - 1) literals)) (sym r.2)
      (parent-in prefix (literal path index) a.ticks.asked (take r.0 b.asked) literals a.begins (All-contains (GoesOn longer) b.asked literals b.are.go_on (get-contains b.asked r.0 literals r.1))
      (λ deep. b.behind r.0 literals r.1 deep)))
      (cases_lt place (length a.ticks.asked))

  -- all of the first were offered
  pub first-offered : AreOffered instance a.ticks.asked here.bound.least
  first-offered = subst (λ ps. AreOffered instance ps here.bound.least) (sym (a.ticks.asked_is ∙ append-nil a.ticks.tried)) a.offered

  more-tried : (xs ys : List (List Literal)) (w : World) → All (Contains ys) xs → OffersCost instance xs w → OffersCost instance ys w
  more-tried xs ys w has o = record { plan = o.plan; prefix = o.prefix; ticked = All-contains (Contains ys) xs o.prefix has o.ticked; whole = o.whole; offered = o.offered; kept = o.kept }

  pub join-offers : (new.bound.least ≡ old.bound.least) ⊎ OffersCost instance (a.ticks.tried ++ b.tried) new
  join-offers = ⊎_elim
      (λ same. ⊎_elim
      (λ was. inl (same ∙ was))
      (λ (o : OffersCost instance a.ticks.tried here). inr (more-tried a.ticks.tried (a.ticks.tried ++ b.tried) new
      (All-from_members (Contains (a.ticks.tried ++ b.tried)) a.ticks.tried (λ x m. Contains-append_left a.ticks.tried b.tried x m))
      (cost-later instance a.ticks.tried here new after.better same o)))
      a.ticks.offers)
      (λ (o : OffersCost instance b.tried new). inr (more-tried b.tried (a.ticks.tried ++ b.tried) new
      (All-from_members (Contains (a.ticks.tried ++ b.tried)) b.tried (λ x m. Contains-append_right a.ticks.tried b.tried x m)) o))
      b.offers

  abbrev pub next-ticks : Ticks instance level prefix old new refused
  next-ticks = record {
    tried = a.ticks.tried ++ b.tried;
    asked = a.ticks.asked ++ b.asked;
    asked_is = ap (λ xs. xs ++ b.asked) (a.ticks.asked_is ∙ append-nil a.ticks.tried) ∙ (ap (λ ys. a.ticks.tried ++ ys) b.asked_is ∙ sym (append_assoc a.ticks.tried b.tried refused));
    taken = omega (arith, length-append a.ticks.tried b.tried, a.ticks.taken, b.taken);
    are = join-all;
    behind = join-behind;
    stops = stops-join instance level old here new before after a.ticks.asked b.asked a.ticks.stops b.stops first-offered;
    last = b.last;
    offers = join-offers;
  }

  -- and they are offered where the later ones are
  pub next-offered : AreOffered instance b.tried new.bound.least → AreOffered instance (a.ticks.tried ++ b.tried) new.bound.least
  next-offered h = both-offered instance a.ticks.tried b.tried new.bound.least (offered-later instance a.ticks.tried here.bound.least new.bound.least after.lowers a.offered) h

  pub next-counted : HaveCountLines instance b.tried here.log.lines new.log.lines → HaveCountLines instance (a.ticks.tried ++ b.tried) old.log.lines new.log.lines
  next-counted h = both-counted instance a.ticks.tried b.tried old.log.lines here.log.lines new.log.lines before.lines after.lines a.counted h

-- where none was refused, the next choice comes next
pub next-below : (instance : Instance) (level : ℕ) (prefix : List Literal) (path index : ℕ) (old here new : World) → Keeps instance old here → Keeps instance here new →
    (a : TicksBelow instance level prefix path index old here) (b : Ticks instance level (prefix ++ literal path index ∷ []) here new []) → AreOffered instance b.tried new.bound.least → HaveCountLines instance b.tried here.log.lines new.log.lines → TicksBelow instance level prefix path (index + 1) old new
next-below instance level prefix path index old here new before after a b offered counted = record {
  ticks = next-ticks instance level prefix path index old here new before after [] a b;
  begins = Contains-append_left a.ticks.asked b.asked prefix a.begins;
  each = All-append (IsEarlier prefix path (index + 1)) a.ticks.asked b.asked
      (All-from_members (IsEarlier prefix path (index + 1)) a.ticks.asked (λ x l. earlier-more prefix path index x (All-contains (IsEarlier prefix path index) a.ticks.asked x a.each l)))
      (All-from_members (IsEarlier prefix path (index + 1)) b.asked (λ x l. inr (index, omega arith, All-contains (λ y. GoesOn (prefix ++ literal path index ∷ []) y) b.asked x b.are.go_on l)));
  offered = next-offered instance level prefix path index old here new before after [] a b offered;
  counted = next-counted instance level prefix path index old here new before after [] a b counted;
}

pub none-at : (xs : List (List Literal)) → length xs ≡ 0 → xs ≡ []
none-at [] e = refl
none-at (x ∷ xs) e = absurd (omega arith)
