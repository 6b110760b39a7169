-- The stops of one choice after another.
use Rattle.std.proofs.Common.{◌≡◌, ℕ, ◌+◌, ◌≤◌, min, List, [], ◌∷◌, ◌++◌, length, map, All, AllPairs, Contains, Option, Some, None, Result, Ok, Err, OnOk, refl, sym, ap, subst, ◌∙◌, inl, inr, ⊎_elim, arith}
use Rattle.std.proofs.lemmas.List.{length-append}
use Rattle.std.proofs.lemmas.List.Elements.{All-append, All-contains, All-cons, All-nil, Contains-append_left}
use Rattle.fapp_model.specs.declared.instance.Instance.{Instance}
use Rattle.fapp_model.specs.declared.literal.Literal.{Literal}
use Rattle.fapp_model.specs.Costs.{cost}
use Rattle.fapp_model.specs.Tags.{code_of}
use Rattle.fapp_model.proofs.Members.{All-from_members, at_front, behind, front_or_behind, no_member}
use Rattle.search_log.specs.declared.line.LogLine.{LogLine}
use Rattle.search_log.proofs.ByPlace.{get-append}
use Rattle.search_log.specs.Bounds.{BoundState, floor, lowest}
use Rattle.search_log.specs.Shares.{SharedState, known}
use Rattle.settle_laws.specs.Stops.{AreStops, ComesAfter, ComesBefore, IsUndecided, IsWholePrefix, Precedes, Stop, prefixes_of}
use Rattle.settle_laws.specs.Ticks.{HaveCountLines, AreOffered, GainsCount, OfferedAtMost}
use Rattle.settle_laws.specs.Worlds.{Gains, Keeps, World}
use Rattle.settle_laws.proofs.Adding.{has-trans, pairs-join}
use Rattle.settle_laws.proofs.Keeping.{rows-grow}

-- ---- what was told and offered

lowest-le : (told : ℕ) (least : Option ℕ) → lowest told least ≤ told
lowest-le told None = omega arith
lowest-le told (Some least) = omega arith

pub floor-le : (b : BoundState) → floor b ≤ b.told
floor-le b = lowest-le b.told b.least

lowest-offered : (told : ℕ) (least : Option ℕ) (tag : ℕ) → OfferedAtMost least tag → lowest told least ≤ tag
lowest-offered told None tag h = absurd h
lowest-offered told (Some least) tag h = omega (arith, h)

floor-offered : (b : BoundState) (tag : ℕ) → OfferedAtMost b.least tag → floor b ≤ tag
floor-offered b tag h = lowest-offered b.told b.least tag h

offered-by : (before after : Option ℕ) (tag : ℕ) → ((n : ℕ) → lowest n after ≤ lowest n before) → OfferedAtMost before tag → OfferedAtMost after tag
offered-by None after tag low h = absurd h
offered-by (Some least) None tag low h = absurd (omega (arith, low (least + 1)))
offered-by (Some least) (Some later) tag low h = omega (arith, low (least + later + 1), h)

pub offered-later : (instance : Instance) (tried : List (List Literal)) (before after : Option ℕ) → ((n : ℕ) → lowest n after ≤ lowest n before) → AreOffered instance tried before → AreOffered instance tried after
offered-later instance tried before after low h = All-from_members (λ prefix. (plan : List ℕ) → IsWholePrefix instance prefix plan → OfferedAtMost after (code_of (cost instance plan))) tried (λ prefix m plan whole.
    offered-by before after (code_of (cost instance plan)) low (All-contains (λ prefix. (plan : List ℕ) → IsWholePrefix instance prefix plan → OfferedAtMost before (code_of (cost instance plan))) tried prefix h m plan whole))

pub none-offered : (instance : Instance) (least : Option ℕ) → AreOffered instance [] least
none-offered instance least = All-nil (λ prefix. (plan : List ℕ) → IsWholePrefix instance prefix plan → OfferedAtMost least (code_of (cost instance plan)))

pub both-offered : (instance : Instance) (xs ys : List (List Literal)) (least : Option ℕ) → AreOffered instance xs least → AreOffered instance ys least → AreOffered instance (xs ++ ys) least
both-offered instance xs ys least h k = All-append (λ prefix. (plan : List ℕ) → IsWholePrefix instance prefix plan → OfferedAtMost least (code_of (cost instance plan))) xs ys h k

pub one-offered : (instance : Instance) (prefix : List Literal) (least : Option ℕ) → ((plan : List ℕ) → IsWholePrefix instance prefix plan → OfferedAtMost least (code_of (cost instance plan))) → AreOffered instance (prefix ∷ []) least
one-offered instance prefix least h = All-cons (λ prefix. (plan : List ℕ) → IsWholePrefix instance prefix plan → OfferedAtMost least (code_of (cost instance plan))) prefix [] h
    (All-nil (λ prefix. (plan : List ℕ) → IsWholePrefix instance prefix plan → OfferedAtMost least (code_of (cost instance plan))))

-- ---- lines at costs

abbrev IsCounted : Instance → List LogLine → List LogLine → List Literal → Type 0
IsCounted instance old new prefix = (plan : List ℕ) → IsWholePrefix instance prefix plan → GainsCount old new prefix (code_of (cost instance plan))

pub none-counted : (instance : Instance) (old new : List LogLine) → HaveCountLines instance [] old new
none-counted instance old new = All-nil (IsCounted instance old new)

pub one-counted : (instance : Instance) (prefix : List Literal) (old new : List LogLine) → ((plan : List ℕ) → IsWholePrefix instance prefix plan → GainsCount old new prefix (code_of (cost instance plan))) → HaveCountLines instance (prefix ∷ []) old new
one-counted instance prefix old new h = All-cons (IsCounted instance old new) prefix [] h (All-nil (IsCounted instance old new))

count-later : (prefix : List Literal) (code : ℕ) (old new later : List LogLine) → Gains new later → GainsCount old new prefix code → GainsCount old later prefix code
count-later prefix code old new later gains h = record {
  place = h.place;
  line = h.line;
  gained = h.gained;
  there = let there = get-append new gains.more h.place h.line h.there in rw (gains.are) there;
  count = h.count;
  tag = h.tag;
  within = h.within;
}

pub counted-later : (instance : Instance) (tried : List (List Literal)) (old new later : List LogLine) → Gains new later → HaveCountLines instance tried old new → HaveCountLines instance tried old later
counted-later instance tried old new later gains h = All-from_members (IsCounted instance old later) tried (λ prefix m plan whole.
    count-later prefix (code_of (cost instance plan)) old new later gains (All-contains (IsCounted instance old new) tried prefix h m plan whole))

count-since : (prefix : List Literal) (code : ℕ) (old here new : List LogLine) → Gains old here → GainsCount here new prefix code → GainsCount old new prefix code
count-since prefix code old here new gains h = record {
  place = h.place;
  line = h.line;
  gained = omega (arith, h.gained, ap length gains.are, length-append old gains.more);
  there = h.there;
  count = h.count;
  tag = h.tag;
  within = h.within;
}

-- those of lines gained at first, and of lines gained since
pub both-counted : (instance : Instance) (xs ys : List (List Literal)) (old here new : List LogLine) → Gains old here → Gains here new → HaveCountLines instance xs old here → HaveCountLines instance ys here new → HaveCountLines instance (xs ++ ys) old new
both-counted instance xs ys old here new before after h k = All-append (IsCounted instance old new) xs ys (counted-later instance xs old here new after h)
    (All-from_members (IsCounted instance old new) ys (λ prefix m plan whole.
    count-since prefix (code_of (cost instance plan)) old here new before (All-contains (IsCounted instance here new) ys prefix k m plan whole)))

-- where something was found
pub on-ok : {T E : Type 0} (P Q : Type 0) → (P → Q) → (result : Result T E) → OnOk result P → OnOk result Q
on-ok P Q f (Ok x) h = f h
on-ok P Q f (Err e) h = tt

-- ---- stops

prefixes-append : (xs ys : List Stop) → prefixes_of (xs ++ ys) ≡ prefixes_of xs ++ prefixes_of ys
prefixes-append [] ys = refl
prefixes-append (x ∷ xs) ys = ap (λ more. x.prefix ∷ more) (prefixes-append xs ys)

prefix-in : (stops : List Stop) (stop : Stop) → Contains stops stop → Contains (prefixes_of stops) stop.prefix
prefix-in [] stop m = absurd (no_member stop m)
prefix-in (x ∷ xs) stop m = ⊎_elim
    (λ here. subst (λ (s : Stop). Contains (prefixes_of (x ∷ xs)) s.prefix) here (at_front x.prefix (prefixes_of xs)))
    (λ later. behind x.prefix (prefixes_of xs) stop.prefix (prefix-in xs stop later))
    (front_or_behind x xs stop m)

copied-known : (shared : SharedState) → All (Contains (known shared)) shared.copied
copied-known shared = All-from_members (Contains (known shared)) shared.copied (λ row m. Contains-append_left shared.copied shared.published row m)

pub no-stops : (instance : Instance) (level : ℕ) (old new : World) → AreStops instance level old new []
no-stops instance level old new = record {
  stops = [];
  are = refl;
  undecided = All-nil (IsUndecided instance level);
  in_order = λ i j d less small. absurd (omega arith);
  after = All-nil (ComesAfter old);
  before = All-nil (ComesBefore new);
}

pub one-stop : (instance : Instance) (level : ℕ) (old new : World) (stop : Stop) → IsUndecided instance level stop → ComesAfter old stop → ComesBefore new stop → AreStops instance level old new (stop.prefix ∷ [])
one-stop instance level old new stop undecided after before = record {
  stops = stop ∷ [];
  are = refl;
  undecided = All-cons (IsUndecided instance level) stop [] undecided (All-nil (IsUndecided instance level));
  in_order = λ i j d less small. absurd (omega arith);
  after = All-cons (ComesAfter old) stop [] after (All-nil (ComesAfter old));
  before = All-cons (ComesBefore new) stop [] before (All-nil (ComesBefore new));
}

before-later : (new later : World) (stop : Stop) → later.bound.told ≤ new.bound.told → All (Contains later.shared.copied) new.shared.copied → ComesBefore new stop → ComesBefore later stop
before-later new later stop told copied h = record { told = omega (arith, told, h.told); copied = has-trans stop.copied new.shared.copied later.shared.copied h.copied copied }

all-later : (new later : World) (stops : List Stop) → later.bound.told ≤ new.bound.told → All (Contains later.shared.copied) new.shared.copied → All (ComesBefore new) stops → All (ComesBefore later) stops
all-later new later stops told copied h = All-from_members (ComesBefore later) stops (λ stop m. before-later new later stop told copied (All-contains (ComesBefore new) stops stop h m))

pub stops-later : (instance : Instance) (level : ℕ) (old new later : World) (prefixes : List (List Literal)) → later.bound.told ≤ new.bound.told → All (Contains later.shared.copied) new.shared.copied → AreStops instance level old new prefixes → AreStops instance level old later prefixes
stops-later instance level old new later prefixes told copied s = record {
  stops = s.stops;
  are = s.are;
  undecided = s.undecided;
  in_order = s.in_order;
  after = s.after;
  before = all-later new later s.stops told copied s.before;
}

-- the stops from a world on after those up to it
module _ (instance : Instance) (level : ℕ) (old here new : World) (before : Keeps instance old here) (since : Keeps instance here new) (xs ys : List (List Literal))
    (a : AreStops instance level old here xs) (b : AreStops instance level here new ys) (offered : AreOffered instance xs here.bound.least) where
  precedes : (x y : Stop) → Contains a.stops x → Contains b.stops y → Precedes instance x y
  precedes x y m n =
      let up = All-contains (ComesBefore here) a.stops x a.before m in
      let down = All-contains (ComesAfter here) b.stops y b.after n in
      record {
        told = omega (arith, down.told, floor-le here.bound, up.told);
        copied = has-trans x.copied here.shared.copied y.copied up.copied (has-trans here.shared.copied (known here.shared) y.copied (copied-known here.shared) down.copied);
        cost = λ plan whole.
            let in_xs : Contains xs x.prefix = subst (λ ps. Contains ps x.prefix) a.are (prefix-in a.stops x m) in
            let reached = All-contains (λ prefix. (plan : List ℕ) → IsWholePrefix instance prefix plan → OfferedAtMost here.bound.least (code_of (cost instance plan))) xs x.prefix offered in_xs plan whole in
            omega (arith, down.told, floor-offered here.bound (code_of (cost instance plan)) reached);
      }

  after-old : (y : Stop) → ComesAfter here y → ComesAfter old y
  after-old y h = record {
    told = omega (arith, h.told, before.falls);
    copied = has-trans (known old.shared) (known here.shared) y.copied (rows-grow old.shared here.shared before.copied before.published) h.copied;
  }

  pub stops-join : AreStops instance level old new (xs ++ ys)
  stops-join = record {
    stops = a.stops ++ b.stops;
    are = prefixes-append a.stops b.stops ∙ (ap (λ ps. ps ++ prefixes_of b.stops) a.are ∙ ap (λ ps. xs ++ ps) b.are);
    undecided = All-append (IsUndecided instance level) a.stops b.stops a.undecided b.undecided;
    in_order = pairs-join (Precedes instance) a.stops b.stops a.in_order b.in_order precedes;
    after = All-append (ComesAfter old) a.stops b.stops a.after
        (All-from_members (ComesAfter old) b.stops (λ y n. after-old y (All-contains (ComesAfter here) b.stops y b.after n)));
    before = All-append (ComesBefore new) a.stops b.stops (all-later here new a.stops since.tells since.copied a.before) b.before;
  }
