-- The plan's tree from its longest lists to the empty one: each line is good, and the last ones are those of the lists.
use Rattle.std.proofs.Common.{◌≡◌, ℕ, zero, suc, ◌+◌, ◌<◌, ◌≤◌, false, List, [], ◌∷◌, ◌++◌, length, get_or, refl, ap, subst, ◌∙◌, inl, inr, arith, None, All, Contains, eqb}
use Rattle.std.specs.List.{range_with_len}
use Rattle.std.proofs.lemmas.List.{length_push, length-map, get_or-map}
use Rattle.std.proofs.lemmas.List.FromFn.{length-range_with_len, get_or-range_with_len}
use Rattle.std.proofs.lemmas.List.Elements.{All-contains, All-nil, Contains-append_cases}
use Rattle.fapp_model.specs.declared.instance.Instance.{Instance}
use Rattle.fapp_model.specs.declared.literal.Literal.{Literal}
use Rattle.fapp_model.specs.declared.tag.Tag.{Tag}
use Rattle.fapp_model.specs.Assignments.{count_at}
use Rattle.fapp_model.specs.Instances.{IsInstance, IsNumber}
use Rattle.fapp_model.specs.InstanceTags.{IsTagFor}
use Rattle.fapp_model.specs.search.Partials.{HasAll, IsPartial, literal, names}
use Rattle.fapp_model.proofs.Anys.{none-member, no-member}
use Rattle.fapp_model.proofs.InOrder.{pairs-map, pairs-nil, rising}
use Rattle.fapp_model.proofs.Members.{All-from_members, at_front, behind, from-map, from-range, front_or_behind, in-map, in-range, no_member}
use Rattle.cert_lines.specs.declared.answer.Child.{Child}
use Rattle.cert_lines.specs.declared.answer.Line.{Line}
use Rattle.cert_lines.specs.WellFormed.{AreCites, IsChild, IsLine}
use Rattle.cert_lines.specs.acceptance.LineFaults.{line_fault}
use Rattle.cert_lines.proofs.Deleting.{IsPlain}
use Rattle.accept_laws.specs.Lines.{AreGood}
use Rattle.fapp_plan.specs.Sorting.{by_path}
use Rattle.fapp_plan.proofs.ByPath.{from-by_path, in-by_path}
use Rattle.fapp_plan.proofs.Rules.{by_path-literals}
use Rattle.accept_laws.proofs.Having.{formed-partial}
use Rattle.search_log.specs.Contents.{Content}
use Rattle.merge_laws.specs.Fates.{AreMarked, IsFate, StandsAt}
use Rattle.merge_laws.specs.Levels.{all_longer, level_line, children_from, cites_of, emit_level, emit_prefixes, longer, prefix_line}
use Rattle.merge_laws.proofs.GrowingCertificates.{AreFormed, fate-grows, formed-grows, good-grows, marked-grows, stands-grows, stands-last}
use Rattle.merge_laws.proofs.TreeLines.{Serves, prefix-good, says, whole-branch-good}

-- the lists have lines with numbers from one on
abbrev pub AreNumbered : List Line → Tag → ℕ → List (List Literal) → Type 0
AreNumbered out t n [] = Unit {0}
AreNumbered out t n (literals ∷ lists) = StandsAt out (says t (by_path literals)) n × AreNumbered out t (n + 1) lists

-- a good certificate in which the lists have their lines
pub record IsLevel (instance : Instance) (out : List Line) (t : Tag) (n : ℕ) (lists : List (List Literal)) : Type 0 where
  pub good : AreGood instance out
  pub formed : AreFormed instance out
  pub marked : AreMarked instance out
  pub numbered : AreNumbered out t n lists

-- ---- lists by number

numbered-grows : (t : Tag) (lists : List (List Literal)) (out more : List Line) (n : ℕ) → AreNumbered out t n lists → AreNumbered (out ++ more) t n lists
numbered-grows t [] out more n h = tt
numbered-grows t (literals ∷ lists) out more n h = (stands-grows out more (says t (by_path literals)) n h.0, numbered-grows t lists out more (n + 1) h.1)

numbered-front : (t : Tag) (xs ys : List (List Literal)) (out : List Line) (n : ℕ) → AreNumbered out t n (xs ++ ys) → AreNumbered out t n xs
numbered-front t [] ys out n h = tt
numbered-front t (x ∷ xs) ys out n h = (h.0, numbered-front t xs ys out (n + 1) h.1)

numbered-back : (t : Tag) (xs ys : List (List Literal)) (out : List Line) (n m : ℕ) → m ≡ n + length xs → AreNumbered out t n (xs ++ ys) → AreNumbered out t m ys
numbered-back t [] ys out n m e h = subst (λ k. AreNumbered out t k ys) (let s : n ≡ m = omega (arith, e) in s) h
numbered-back t (x ∷ xs) ys out n m e h = numbered-back t xs ys out (n + 1) m (omega (arith, e)) h.1

numbered-at : (t : Tag) (xs : List (List Literal)) (out : List Line) (n k : ℕ) (d : List Literal) → k < length xs → AreNumbered out t n xs → StandsAt out (says t (by_path (get_or xs k d))) (n + k)
numbered-at t [] out n k d small h = absurd (omega arith)
numbered-at t (x ∷ xs) out n zero d small h = subst (StandsAt out (says t (by_path x))) (let s : n ≡ n + 0 = omega arith in s) h.0
numbered-at t (x ∷ xs) out n (suc k) d small h = subst (StandsAt out (says t (by_path (get_or xs k d)))) (let s : n + 1 + k ≡ n + suc k = omega arith in s) (numbered-at t xs out (n + 1) k d (omega arith) h.1)

-- ---- one more literal

pub length-longer : (instance : Instance) (path : ℕ) (literals : List Literal) → length (longer instance path literals) ≡ count_at instance path
length-longer instance path literals = length-map (range_with_len 0 (count_at instance path)) (λ i. literals ++ literal path i ∷ []) ∙ length-range_with_len 0 (count_at instance path)

longer-at : (instance : Instance) (path : ℕ) (literals : List Literal) (index : ℕ) → index < count_at instance path → get_or (longer instance path literals) index [] ≡ literals ++ literal path index ∷ []
longer-at instance path literals index below = get_or-map (λ i. literals ++ literal path i ∷ []) (range_with_len 0 (count_at instance path)) index 0 [] (omega (arith, length-range_with_len 0 (count_at instance path), below))
    ∙ ap (λ i. literals ++ literal path i ∷ []) (let e : get_or (range_with_len 0 (count_at instance path)) index 0 ≡ index = omega (arith, get_or-range_with_len 0 (count_at instance path) index 0 below) in e)

sorted-free : (literals : List Literal) (path : ℕ) → names literals path ≡ false → names (by_path literals) path ≡ false
sorted-free literals path free = no-member (λ a. eqb a.path path) (by_path literals) (λ a m. none-member (λ b. eqb b.path path) literals free a (from-by_path literals a m))

-- ---- a level from the one below it

module _ (instance : Instance) (t : Tag) (own : IsTagFor instance t) (some : 0 < t.code) where
  -- partial assignments, none of which names a path
  abbrev pub AreFree : ℕ → List (List Literal) → Type 0
  AreFree path lists = (literals : List Literal) → Contains lists literals → IsPartial instance literals × (names literals path ≡ false)

  module _ (path : ℕ) (small : path < length instance.paths) where
    serves : (literals : List Literal) (next : ℕ) (out : List Line) → AreNumbered out t next (longer instance path literals) → (index : ℕ) → index < count_at instance path → Serves out t (by_path literals) path (record { choice = index; cite = next + index })
    serves literals next out h index below = record {
      lits = by_path (literals ++ literal path index ∷ []);
      stands = subst (λ l. StandsAt out (says t (by_path l)) (next + index)) (longer-at instance path literals index below)
          (numbered-at t (longer instance path literals) out next index [] (omega (arith, below, length-longer instance path literals)) h);
      within = All-from_members (Contains (literal path index ∷ by_path literals)) (by_path (literals ++ literal path index ∷ [])) (λ a m. there a (from-by_path (literals ++ literal path index ∷ []) a m));
    }
      where
        there : (a : Literal) → Contains (literals ++ literal path index ∷ []) a → Contains (literal path index ∷ by_path literals) a
        there a m = elim (Contains-append_cases literals (literal path index ∷ []) a m) [
          | inl front ↦ behind (literal path index) (by_path literals) a (in-by_path literals a front)
          | inr last ↦ elim (front_or_behind (literal path index) [] a last) [ inl same ↦ subst (Contains (literal path index ∷ by_path literals)) same (at_front (literal path index) (by_path literals)) | inr none ↦ absurd (no_member a none) ]
        ]

    child-from : ℕ → ℕ → Child
    child-from next index = record { choice = index; cite = next + index }

    branch-good : (literals : List Literal) (next : ℕ) (out : List Line) → All IsPlain out → names literals path ≡ false → AreNumbered out t next (longer instance path literals) → line_fault instance out (level_line instance t path next literals) ≡ None
    branch-good literals next out plain free front = whole-branch-good instance out plain t (by_path literals) path (children_from instance path next) (sorted-free literals path free)
        (λ child m. let found = from-map (λ index. record { choice = index; cite = next + index }) (range_with_len 0 (count_at instance path)) child m in
        subst (Serves out t (by_path literals) path) found.2 (serves literals next out front found.0 (from-range (count_at instance path) found.0 found.1)))
        (λ index below. (record { choice = index; cite = next + index }, in-map (λ index. record { choice = index; cite = next + index }) (range_with_len 0 (count_at instance path)) index (in-range (count_at instance path) index below), refl)) some

    branch-formed : (literals : List Literal) (next : ℕ) (out : List Line) → IsPartial instance literals → AreNumbered out t next (longer instance path literals) → IsNumber (length out) → IsLine instance (level_line instance t path next literals)
    branch-formed literals next out partial front few = record {
      tag = own;
      lits = by_path-literals instance literals partial;
      rule = (
        small,
        record {
          each = All-from_members (IsChild instance path) (children_from instance path next) (λ child m.
              let found = from-map (λ index. record { choice = index; cite = next + index }) (range_with_len 0 (count_at instance path)) child m in
              subst (IsChild instance path) found.2 (formed found.0 (from-range (count_at instance path) found.0 found.1)));
          ascending = pairs-map (λ (a b : Child). a.choice < b.choice) (λ index. record { choice = index; cite = next + index }) (range_with_len 0 (count_at instance path)) (rising 0 (count_at instance path));
        },
      );
    }
      where
        formed : (index : ℕ) → index < count_at instance path → IsChild instance path (record { choice = index; cite = next + index })
        formed index below = record {
          choice = below;
          cite = (let h = (numbered-at t (longer instance path literals) out next index [] (let e = length-longer instance path literals in omega arith) front).high in omega arith);
        }

    record Grown (old new : List Line) (n : ℕ) (lists : List (List Literal)) : Type 0 where
      pub level : IsLevel instance new t n lists
      pub keeps : (content : Content) (k : ℕ) → StandsAt old content k → StandsAt new content k

    grown : (lists : List (List Literal)) (next : ℕ) (out : List Line) → AreFree path lists → IsLevel instance out t next (all_longer instance path lists) → Grown out (emit_level instance t path next lists out) (length out + 1) lists
    grown [] next out free level = record { level = record { good = level.good; formed = level.formed; marked = level.marked; numbered = tt }; keeps = λ content k h. h }
    grown (literals ∷ lists) next out free level =
        let new = level_line instance t path next literals in
        let front = numbered-front t (longer instance path literals) (all_longer instance path lists) out next level.numbered in
        let back = numbered-back t (longer instance path literals) (all_longer instance path lists) out next (next + count_at instance path) (omega (arith, length-longer instance path literals)) level.numbered in
        let own_free = free literals (at_front literals lists) in
        let rest = grown lists (next + count_at instance path) (out ++ new ∷ []) (λ l m. free l (behind literals lists l m)) (record {
          good = good-grows instance out new level.good (branch-good literals next out level.marked.plain own_free.1 front);
          formed = formed-grows instance out new level.formed (branch-formed literals next out own_free.0 front);
          marked = marked-grows instance out new refl level.marked;
          numbered = numbered-grows t (all_longer instance path lists) out (new ∷ []) (next + count_at instance path) back;
        }) in
        record {
          level = record {
            good = rest.level.good;
            formed = rest.level.formed;
            marked = rest.level.marked;
            numbered = (rest.keeps (says t (by_path literals)) (length out + 1) (stands-last out new), subst (λ n. AreNumbered (emit_level instance t path next (literals ∷ lists) out) t (n + 1) lists) (length_push out new) rest.level.numbered);
          };
          keeps = λ content k h. rest.keeps content k (stands-grows out (new ∷ []) content k h);
        }

    pub level-good : (lists : List (List Literal)) (next : ℕ) (out : List Line) → AreFree path lists → IsLevel instance out t next (all_longer instance path lists) → IsLevel instance (emit_level instance t path next lists out) t (length out + 1) lists
    level-good lists next out free level = (grown lists next out free level).level

  -- ---- the prefixes

  -- what settles a list of choices, with its number
  pub record IsSettled (out : List Line) (literals : List Literal) (number : ℕ) : Type 0 where
    pub content : Content
    pub reaches : t.code ≤ content.tag
    pub within : HasAll literals content.lits
    pub fate : IsFate instance out content number

  settled-grows : (out more : List Line) (literals : List Literal) (number : ℕ) → IsSettled out literals number → IsSettled (out ++ more) literals number
  settled-grows out more literals number h = record { content = h.content; reaches = h.reaches; within = h.within; fate = fate-grows instance out more h.content number h.fate }

  -- lists of choices that are settled, with the numbers of places from one on
  abbrev pub AreSettled : List Line → (ℕ → ℕ) → ℕ → List (List Literal) → Type 0
  AreSettled out number place [] = Unit {0}
  AreSettled out number place (literals ∷ lists) = IsSettled out literals (number place) × AreSettled out number (place + 1) lists

  all-grow : (out more : List Line) (number : ℕ → ℕ) (lists : List (List Literal)) (place : ℕ) → AreSettled out number place lists → AreSettled (out ++ more) number place lists
  all-grow out more number [] place h = tt
  all-grow out more number (literals ∷ lists) place h = (settled-grows out more literals (number place) h.0, all-grow out more number lists (place + 1) h.1)

  abbrev pub ArePartial : List (List Literal) → Type 0
  ArePartial lists = (literals : List Literal) → Contains lists literals → IsPartial instance literals

  module _ (valid : IsInstance instance) (paths_are : 0 < length instance.paths) (number : ℕ → ℕ) where
    prefix-clean : (literals : List Literal) (out : List Line) (n : ℕ) → IsPartial instance literals → AreMarked instance out → IsSettled out literals n → line_fault instance out (prefix_line t literals n) ≡ None
    prefix-clean literals out n partial marked h =
        prefix-good instance out t (by_path literals) h.content n valid marked own (formed-partial instance (by_path literals) (by_path-literals instance literals partial)) paths_are some h.reaches
        (All-from_members (Contains (by_path literals)) h.content.lits (λ a m. in-by_path literals a (All-contains (Contains literals) h.content.lits a h.within m))) h.fate

    cites-formed : (n : ℕ) → IsNumber n → AreCites (cites_of n)
    cites-formed zero few = record { each = All-nil IsNumber; ascending = pairs-nil (λ (a b : ℕ). a < b); few = omega arith }
    cites-formed (suc n) few = record {
      each = All-from_members IsNumber (suc n ∷ []) (λ m c. elim (front_or_behind (suc n) [] m c) [ inl same ↦ subst IsNumber same few | inr none ↦ absurd (no_member m none) ]);
      ascending = λ i j d less inside. absurd (omega arith);
      few = omega arith;
    }

    fate-small : (out : List Line) (content : Content) (n : ℕ) → IsNumber (length out) → IsFate instance out content n → IsNumber n
    fate-small out content n few (inl left) = let e = left.none in omega arith
    fate-small out content n few (inr stands) = let h = stands.high in omega arith

    prefix-formed : (literals : List Literal) (out : List Line) (n : ℕ) → IsPartial instance literals → IsSettled out literals n → IsNumber (length out) → IsLine instance (prefix_line t literals n)
    prefix-formed literals out n partial h few = record { tag = own; lits = by_path-literals instance literals partial; rule = cites-formed n (fate-small out h.content n few h.fate) }

    pub record Bottomed (old new : List Line) (lists : List (List Literal)) : Type 0 where
      pub level : IsLevel instance new t (length old + 1) lists
      pub keeps : (content : Content) (k : ℕ) → StandsAt old content k → StandsAt new content k

    pub bottomed : (lists : List (List Literal)) (place : ℕ) (out : List Line) → AreGood instance out → AreFormed instance out → AreMarked instance out → ArePartial lists → AreSettled out number place lists → Bottomed out (emit_prefixes t number place lists out) lists
    bottomed [] place out good formed marked partial settled = record { level = record { good = good; formed = formed; marked = marked; numbered = tt }; keeps = λ content k h. h }
    bottomed (literals ∷ lists) place out good formed marked partial settled =
        let new = prefix_line t literals (number place) in
        let home = partial literals (at_front literals lists) in
        let rest = bottomed lists (place + 1) (out ++ new ∷ []) (good-grows instance out new good (prefix-clean literals out (number place) home marked settled.0)) (formed-grows instance out new formed (prefix-formed literals out (number place) home settled.0))
        (marked-grows instance out new refl marked) (λ l m. partial l (behind literals lists l m)) (all-grow out (new ∷ []) number lists (place + 1) settled.1) in
        record {
          level = record {
            good = rest.level.good;
            formed = rest.level.formed;
            marked = rest.level.marked;
            numbered = (rest.keeps (says t (by_path literals)) (length out + 1) (stands-last out new), subst (λ n. AreNumbered (emit_prefixes t number place (literals ∷ lists) out) t (n + 1) lists) (length_push out new) rest.level.numbered);
          };
          keeps = λ content k h. rest.keeps content k (stands-grows out (new ∷ []) content k h);
        }
