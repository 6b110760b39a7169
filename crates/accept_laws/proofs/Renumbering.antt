-- A line without a fault has none from other lines either, where these say what it cites and mark what was marked.
use Rattle.std.proofs.Common.{◌≡◌, ℕ, ◌+◌, ◌-◌, ◌<◌, ◌≤◌, Bool, true, false, ◌&&◌, not, List, [], ◌∷◌, ◌++◌, length, map, take, get_or, refl, ap, sym, subst, ◌∙◌, inl, inr, arith, None, Option, All, Contains, IsTrue, ltb, leb, eqb, cond, ◌⊎◌, ◌/◌, ◌%◌}
use Rattle.std.specs.List.{list_any, list_all, range_with_len}
use Rattle.std.specs.Option.{option_map}
use Rattle.std.proofs.lemmas.Bool.{and_from, or_cases, or_left, or_right, not-true, not_from_false, lt-ltb, le-leb, eqb-false, cases_lt}
use Rattle.std.proofs.lemmas.List.{length-append, length-map, length-take, get_or_append_left, get_or-append_right, get_or-map, get_or-take, take-append-le, take-map}
use Rattle.std.proofs.Math.Seq.{take-append-add}
use Rattle.std.proofs.lemmas.List.Sums.{AllPass-from_list_all}
use Rattle.std.proofs.lemmas.List.Elements.{All-append, All-contains, All-nil, Contains-append_right}
use Rattle.fapp_model.specs.declared.instance.Instance.{Instance}
use Rattle.fapp_model.specs.declared.literal.Literal.{Literal}
use Rattle.fapp_model.specs.declared.tag.Tag.{Tag}
use Rattle.fapp_model.specs.declared.triple.Triple.{Triple}
use Rattle.fapp_model.specs.Assignments.{count_at}
use Rattle.fapp_model.specs.Tags.{least_tag, triple_from}
use Rattle.fapp_model.specs.search.Partials.{IsPartial, literal, names}
use Rattle.fapp_model.proofs.Anys.{any-member, passing}
use Rattle.fapp_model.proofs.Members.{All-from_members, at_front, behind, from-map, from-range, in-map, no_member}
use Rattle.cert_lines.specs.declared.answer.Child.{Child}
use Rattle.cert_lines.specs.declared.answer.Line.{Line}
use Rattle.cert_lines.specs.declared.answer.Rule.{Rule}
use Rattle.cert_lines.specs.declared.answer.Rule.TheVariants.{Branch, Count, Delete}
use Rattle.cert_lines.specs.declared.reject.RejectCause.{RejectCause}
use Rattle.cert_lines.specs.declared.reject.RejectCause.TheVariants.{CiteDeleted, CiteNotEarlier, CiteNotContained, CiteTagTooLow, NotDead, WrongPath}
use Rattle.cert_lines.specs.WellFormed.{IsLine, IsRule}
use Rattle.cert_lines.specs.acceptance.Contained.{has_all, has_all_but_one}
use Rattle.cert_lines.specs.acceptance.Deleted.{deletes, is_delete, is_deleted, kept}
use Rattle.cert_lines.specs.acceptance.Excluded.{is_cited, is_excluded, is_marked, is_only, line_at, no_line}
use Rattle.cert_lines.specs.acceptance.LineFaults.{branch_fault, cause_unless, child_fault, cite_fault, count_fault, delete_fault, first_of, is_dead, is_settled, line_fault, rejected_at, rule_fault}
use Rattle.accept_laws.specs.Lines.{AreGood}
use Rattle.cert_lines.specs.Renumbering.{cited, renumbered, renumbered_child, renumbered_rule}
use Rattle.accept_laws.specs.Renumbering.{shifted}
use Rattle.cert_lines.proofs.Deleting.{IsPlain, all-stay, formed-plain, none-deleted, plain-rule}
use Rattle.accept_laws.proofs.GoodLines.{good-cite}
use Rattle.accept_laws.proofs.Having.{formed-partial}
use Rattle.accept_laws.proofs.Judging.{judged-dead, judged-where-excluded}
use Rattle.accept_laws.proofs.Options.{both-none, cause_unless-none, first_of-none, mapped-none, neither, none-first_of}
use Rattle.dead_laws.proofs.OneMoreLiteral.{with-literal}

pub passes-none : (b : Bool) (cause : RejectCause) → b ≡ true → cause_unless b cause ≡ None
passes-none true cause h = refl
passes-none false cause h = absurd (cc)

pub above-least : (code : ℕ) → 0 < code → triple_from code ≡ least_tag → ⊥
above-least code some e = absurd (parts (ap (λ (t : Triple). t.k) e) (ap (λ (t : Triple). t.v) e) (ap (λ (t : Triple). t.s) e))
  where
    parts : code / 67108864 / 67108864 ≡ 0 → code / 67108864 % 67108864 ≡ 0 → code % 67108864 ≡ 0 → ⊥
    parts k v s = omega arith

-- what a line says, another one says that may be cited
pub record Serves (earlier more : List Line) (n m : ℕ) : Type 0 where
  pub low : 0 < m
  pub high : m ≤ length more
  pub stays : is_deleted more m ≡ false
  pub tag : (line_at more m).tag.code ≡ (line_at earlier n).tag.code
  pub lits : (line_at more m).lits ≡ (line_at earlier n).lits

-- what some cites may name
pub record MayBeCited (earlier : List Line) (t : Tag) (n : ℕ) : Type 0 where
  pub low : 0 < n
  pub high : n ≤ length earlier
  pub stays : is_deleted earlier n ≡ false
  pub tag : t.code ≤ (line_at earlier n).tag.code

abbrev pub KeepMarks : List Line → List Line → Type 0
KeepMarks earlier more = (t : Tag) (a : Literal) → 0 < t.code → is_marked (kept earlier) t a ≡ true → is_marked (kept more) t a ≡ true

module _ (instance : Instance) (earlier more : List Line) (number : ℕ → ℕ) (t : Tag) (some : 0 < t.code) (Allowed : ℕ → Type 0)
    (serve : (n : ℕ) → Allowed n → MayBeCited earlier t n → Serves earlier more n (number n)) (marks : KeepMarks earlier more) where
  served : (contains : List Literal → Bool) (n : ℕ) → Allowed n → cite_fault earlier t contains n ≡ None → Serves earlier more n (number n)
  served contains n may h = let good = good-cite earlier t contains n h in serve n may (record { low = good.low; high = good.high; stays = good.stays; tag = good.tag })

  cite-clean : (contains : List Literal → Bool) (n : ℕ) → Allowed n → cite_fault earlier t contains n ≡ None → cite_fault more t contains (number n) ≡ None
  cite-clean contains n may h =
      let good = good-cite earlier t contains n h in
      let s = served contains n may h in
      let m = number n in
      both-none (cause_unless (ltb 0 m && leb m (length more)) CiteNotEarlier) _
      (passes-none _ CiteNotEarlier (and_from (ltb 0 m) (leb m (length more)) (lt-ltb 0 m s.low) (le-leb m (length more) s.high)))
      (both-none (cause_unless (not (is_deleted more m)) CiteDeleted) _ (passes-none _ CiteDeleted (not_from_false (is_deleted more m) s.stays))
      (both-none (cause_unless (contains (line_at more m).lits) CiteNotContained) _
      (passes-none _ CiteNotContained (rw s.lits good.contained))
      (passes-none _ CiteTagTooLow (le-leb t.code (line_at more m).tag.code (let e = s.tag in let l = good.tag in omega arith)))))

  module _ (contains : List Literal → Bool) (cites : List ℕ) (may : (n : ℕ) → Contains cites n → Allowed n) (good : All (λ n. cite_fault earlier t contains n ≡ None) cites) (literals : List Literal) where
    still-cited : (a : Literal) → is_cited earlier cites literals a ≡ true → is_cited more (map number cites) literals a ≡ true
    still-cited a h =
        let found = passing (λ n. has_all (a ∷ literals) (line_at earlier n).lits) cites h in
        let s = served contains found.item (may found.item found.member) (All-contains (λ n. cite_fault earlier t contains n ≡ None) cites found.item good found.member) in
        any-member (λ n. has_all (a ∷ literals) (line_at more n).lits) (map number cites) (number found.item) (in-map number cites found.item found.member)
        (rw s.lits found.passes)

    still-excluded : (a : Literal) → is_excluded earlier t cites literals a ≡ true → is_excluded more t (map number cites) literals a ≡ true
    still-excluded a h = elim (or_cases (is_marked (kept earlier) t a) (is_cited earlier cites literals a) h) [
      | inl marked ↦ or_left (is_marked (kept more) t a) (is_cited more (map number cites) literals a) (marks t a some marked)
      | inr cited ↦ or_right (is_marked (kept more) t a) (is_cited more (map number cites) literals a) (still-cited a cited)
    ]

    still-dead : IsPartial instance literals → is_dead instance earlier t cites literals ≡ true → is_dead instance more t (map number cites) literals ≡ true
    still-dead partial h =
        judged-where-excluded (λ a. IsTrue (is_excluded earlier t cites literals a)) (is_excluded more t (map number cites) literals) instance (triple_from t.code) literals partial
        (λ a home out. still-excluded a out) (above-least t.code some) (judged-dead (is_excluded earlier t cites literals) instance (triple_from t.code) literals h)

  all-from : {X : Type 0} (p : X → Bool) (xs : List X) → ((x : X) → Contains xs x → p x ≡ true) → list_all p xs ≡ true
  all-from p [] h = refl
  all-from p (x ∷ xs) h = and_from (p x) (list_all p xs) (h x (at_front x xs)) (all-from p xs (λ y m. h y (behind x xs y m)))

  cites-clean : {X Y : Type 0} (f : X → Y) (from : X → ℕ) (to : Y → ℕ) (contains : X → List Literal → Bool) (holds : Y → List Literal → Bool) (xs : List X) → ((x : X) → to (f x) ≡ number (from x)) → ((x : X) → holds (f x) ≡ contains x) → ((x : X) → Contains xs x → Allowed (from x)) →
      All (λ x. cite_fault earlier t (contains x) (from x) ≡ None) xs → All (λ y. cite_fault more t (holds y) (to y) ≡ None) (map f xs)
  cites-clean f from to contains holds xs at same may good = All-from_members (λ y. cite_fault more t (holds y) (to y) ≡ None) (map f xs) (λ y m.
      let found = from-map f xs y m in
      subst (λ y. cite_fault more t (holds y) (to y) ≡ None) found.2
      (rw (at found.0, same found.0) (cite-clean (contains found.0) (from found.0) (may found.0 found.1) (All-contains (λ x. cite_fault earlier t (contains x) (from x) ≡ None) xs found.0 good found.1))))

  count-clean : (literals : List Literal) (cites : List ℕ) → ((n : ℕ) → Contains cites n → Allowed n) → IsPartial instance literals → count_fault instance earlier t literals cites ≡ None → count_fault instance more t literals (map number cites) ≡ None
  count-clean literals cites may partial h =
      let parts = neither (first_of (cite_fault earlier t (has_all_but_one literals)) cites) (cause_unless (is_dead instance earlier t cites literals) NotDead) h in
      let good = first_of-none (cite_fault earlier t (has_all_but_one literals)) cites parts.0 in
      both-none (first_of (cite_fault more t (has_all_but_one literals)) (map number cites)) (cause_unless (is_dead instance more t (map number cites) literals) NotDead)
      (none-first_of (cite_fault more t (has_all_but_one literals)) (map number cites)
      (cites-clean number (λ n. n) (λ n. n) (λ n. has_all_but_one literals) (λ n. has_all_but_one literals) cites (λ n. refl) (λ n. refl) may good))
      (passes-none _ NotDead (still-dead (has_all_but_one literals) cites may good literals partial (cause_unless-none (is_dead instance earlier t cites literals) NotDead parts.1)))

  module _ (literals : List Literal) (path : ℕ) (children : List Child) (may : (c : Child) → Contains children c → Allowed c.cite) (whole : (index : ℕ) → index < count_at instance path → names literals path ≡ false → IsPartial instance (literal path index ∷ literals)) where
    still-listed : (index : ℕ) → list_any (λ child. eqb child.choice index) children ≡ true → list_any (λ child. eqb child.choice index) (map (renumbered_child number) children) ≡ true
    still-listed index h =
        let found = passing (λ (child : Child). eqb child.choice index) children h in
        any-member (λ (child : Child). eqb child.choice index) (map (renumbered_child number) children) (renumbered_child number found.item) (in-map (renumbered_child number) children found.item found.member) found.passes

    still-settled : (index : ℕ) → index < count_at instance path → names literals path ≡ false → is_settled instance earlier t literals path children index ≡ true → is_settled instance more t literals path (map (renumbered_child number) children) index ≡ true
    still-settled index below free h = elim (or_cases (list_any (λ child. eqb child.choice index) children) (is_dead instance earlier t [] (literal path index ∷ literals)) h) [
      | inl listed ↦ or_left (list_any (λ child. eqb child.choice index) (map (renumbered_child number) children)) (is_dead instance more t [] (literal path index ∷ literals)) (still-listed index listed)
      | inr dead ↦ or_right (list_any (λ child. eqb child.choice index) (map (renumbered_child number) children)) (is_dead instance more t [] (literal path index ∷ literals))
          (still-dead (has_all literals) [] (λ n m. absurd (no_member n m)) (All-nil (λ n. cite_fault earlier t (has_all literals) n ≡ None)) (literal path index ∷ literals) (whole index below free) dead)
    ]

    branch-clean : branch_fault instance earlier t literals path children ≡ None → branch_fault instance more t literals path (map (renumbered_child number) children) ≡ None
    branch-clean h =
        let first = neither (cause_unless (not (names literals path)) WrongPath) _ h in
        let rest = neither (first_of (child_fault earlier t literals path) children) (cause_unless (list_all (is_settled instance earlier t literals path children) (range_with_len 0 (count_at instance path))) NotDead) first.1 in
        let free = not-true (names literals path) (cause_unless-none (not (names literals path)) WrongPath first.0) in
        let settled = AllPass-from_list_all (is_settled instance earlier t literals path children) (range_with_len 0 (count_at instance path)) (cause_unless-none _ NotDead rest.1) in
        both-none (cause_unless (not (names literals path)) WrongPath) _ first.0
        (both-none (first_of (child_fault more t literals path) (map (renumbered_child number) children)) _
        (none-first_of (child_fault more t literals path) (map (renumbered_child number) children)
        (cites-clean (renumbered_child number) (λ (c : Child). c.cite) (λ (c : Child). c.cite) (λ (c : Child). has_all (literal path c.choice ∷ literals)) (λ (c : Child). has_all (literal path c.choice ∷ literals)) children (λ c. refl) (λ c. refl) may
        (first_of-none (child_fault earlier t literals path) children rest.0)))
        (passes-none _ NotDead (all-from (is_settled instance more t literals path (map (renumbered_child number) children)) (range_with_len 0 (count_at instance path))
        (λ index m. still-settled index (from-range (count_at instance path) index m) free
        (All-contains (λ k. is_settled instance earlier t literals path children k ≡ true) (range_with_len 0 (count_at instance path)) index settled m)))))

-- a line behind, with the numbers that its cites have there
pub line-clean : (instance : Instance) (earlier more : List Line) (number : ℕ → ℕ) (line : Line) → ((n : ℕ) → Contains (cited line.rule) n → MayBeCited earlier line.tag n → Serves earlier more n (number n)) → KeepMarks earlier more → IsLine instance line →
    line_fault instance earlier line ≡ None → line_fault instance more (renumbered number line) ≡ None
unfolding line_fault
line-clean instance earlier more number line serve marks formed h =
    both-none (first_of (delete_fault more) (deletes (renumbered_rule number line.rule))) (cond (eqb line.tag.code 0) None (rule_fault instance more line.tag line.lits (renumbered_rule number line.rule)))
    (no-deletes line.rule formed.rule)
    (by_code (eqb line.tag.code 0) refl (neither (first_of (delete_fault earlier) (deletes line.rule)) (cond (eqb line.tag.code 0) None (rule_fault instance earlier line.tag line.lits line.rule)) h).1)
  where
    no-deletes : (rule : Rule) → IsRule instance rule → first_of (delete_fault more) (deletes (renumbered_rule number rule)) ≡ None
    no-deletes (Count cites) is = refl
    no-deletes (Branch path children) is = refl
    no-deletes (Delete cites) is = absurd is

    by_rule : 0 < line.tag.code → (rule : Rule) → rule ≡ line.rule → IsRule instance rule → rule_fault instance earlier line.tag line.lits rule ≡ None → rule_fault instance more line.tag line.lits (renumbered_rule number rule) ≡ None
    by_rule some (Count cites) e is g = count-clean instance earlier more number line.tag some (Contains (cited line.rule)) serve marks line.lits cites (λ n m. subst (λ (r : Rule). Contains (cited r) n) e m) (formed-partial instance line.lits formed.lits) g
    by_rule some (Branch path children) e is g = branch-clean instance earlier more number line.tag some (Contains (cited line.rule)) serve marks line.lits path children
        (λ c m. subst (λ (r : Rule). Contains (cited r) c.cite) e (in-map (λ (c : Child). c.cite) children c m))
        (λ index below free. with-literal instance line.lits path index (formed-partial instance line.lits formed.lits) is.0 below free) g
    by_rule some (Delete cites) e is g = absurd is

    by_code : (b : Bool) → eqb line.tag.code 0 ≡ b → cond b None (rule_fault instance earlier line.tag line.lits line.rule) ≡ None → cond b None (rule_fault instance more line.tag line.lits (renumbered_rule number line.rule)) ≡ None
    by_code true e g = refl
    by_code false e g = by_rule (let apart = eqb-false line.tag.code 0 e in omega arith) line.rule refl formed.rule g

-- ---- lines behind others

module _ (instance : Instance) (others lines : List Line) (front : All (IsLine instance) others) (formed : All (IsLine instance) lines) where
  abbrev moved : Line → Line
  moved = shifted (length others)

  abbrev whole : List Line
  whole = others ++ map moved lines

  behind-at : (n : ℕ) → n < length lines → get_or whole (length others + n) no_line ≡ moved (get_or lines n no_line)
  behind-at n small =
      get_or-append_right others (map moved lines) (length others) (length others + n) no_line refl (omega arith)
      ∙ (ap (λ m. get_or (map moved lines) m no_line) (let e : length others + n - length others ≡ n = omega arith in e)
      ∙ get_or-map moved lines n no_line no_line small)

  moved-plain : All IsPlain whole
  moved-plain = All-append IsPlain others (map moved lines) (formed-plain instance others front) (All-from_members IsPlain (map moved lines) (λ x m.
      let found = from-map moved lines x m in
      subst IsPlain found.2 (by_rule found.0.rule (plain-rule instance found.0.rule (All-contains (IsLine instance) lines found.0 formed found.1).rule))))
    where
      by_rule : (rule : Rule) → is_delete rule ≡ false → is_delete (renumbered_rule (λ n. length others + n) rule) ≡ false
      by_rule (Count cites) e = refl
      by_rule (Branch path children) e = refl
      by_rule (Delete cites) e = e

  still-marked : KeepMarks lines whole
  still-marked t a some h =
      let found = passing (λ line. is_only a line.lits && leb t.code line.tag.code) lines (subst (λ ls. is_marked ls t a ≡ true) (all-stay lines (formed-plain instance lines formed)) h) in
      subst (λ ls. is_marked ls t a ≡ true) (sym (all-stay whole moved-plain))
      (any-member (λ line. is_only a line.lits && leb t.code line.tag.code) whole (moved found.item)
      (Contains-append_right others (map moved lines) (moved found.item) (in-map moved lines found.item found.member)) found.passes)

  serve-behind : (t : Tag) (n : ℕ) → MayBeCited lines t n → Serves lines whole n (length others + n)
  serve-behind t n may =
      let low = may.low in
      let high = may.high in
      let e : length others + n - 1 ≡ length others + (n - 1) = omega arith in
      let at : line_at whole (length others + n) ≡ moved (line_at lines n) = ap (λ m. get_or whole m no_line) e ∙ behind-at (n - 1) (omega arith) in
      record {
        low = omega arith;
        high = (let l = length-append others (map moved lines) in let f = length-map lines moved in omega arith);
        stays = none-deleted whole (length others + n) moved-plain;
        tag = ap (λ (line : Line). line.tag.code) at;
        lits = ap (λ (line : Line). line.lits) at;
      }

pub good-behind : (instance : Instance) (others lines : List Line) → All (IsLine instance) others → All (IsLine instance) lines → AreGood instance others → AreGood instance lines → AreGood instance (others ++ map (shifted (length others)) lines)
good-behind instance others lines others_formed formed front back k small = none-mapped (rejected_at (k + 1)) (line_fault instance (take k (whole instance others lines others_formed formed)) (line_at (whole instance others lines others_formed formed) (k + 1))) (here (cases_lt k (length others)))
  where
    none-mapped : {X Y : Type 0} (f : X → Y) (o : Option X) → o ≡ None → option_map f o ≡ None
    none-mapped f o e = rw e refl

    taken : (n : ℕ) → All (IsLine instance) (take n lines)
    taken n = λ i d small. let l = length-take n lines in rw (get_or-take n lines i d (omega arith)) (formed i d (omega arith))

    in-front : k < length others → line_fault instance (take k (whole instance others lines others_formed formed)) (line_at (whole instance others lines others_formed formed) (k + 1)) ≡ None
    in-front less =
        let same : k + 1 - 1 ≡ k = omega arith in
        rw (take-append-le k others (map (moved instance others lines others_formed formed) lines) (omega arith))
        (rw (get_or_append_left others (map (moved instance others lines others_formed formed) lines) no_line (k + 1 - 1) (omega arith))
        (mapped-none (rejected_at (k + 1)) (line_fault instance (take k others) (line_at others (k + 1))) (front k less)))

    behind-it : (n : ℕ) → k ≡ length others + n → n < length lines → line_fault instance (take k (whole instance others lines others_formed formed)) (line_at (whole instance others lines others_formed formed) (k + 1)) ≡ None
    behind-it n e less =
        let cut : take (length others + n) (whole instance others lines others_formed formed) ≡ whole instance others (take n lines) others_formed (taken n) =
        take-append-add others (map (moved instance others lines others_formed formed) lines) n ∙ ap (λ xs. others ++ xs) (take-map (moved instance others lines others_formed formed) n lines) in
        let at : line_at (whole instance others lines others_formed formed) (length others + n + 1) ≡ moved instance others lines others_formed formed (get_or lines n no_line) =
        ap (λ m. get_or (whole instance others lines others_formed formed) m no_line) (let s : length others + n + 1 - 1 ≡ length others + n = omega arith in s) ∙ behind-at instance others lines others_formed formed n less in
        let clean : line_fault instance (take n lines) (get_or lines n no_line) ≡ None =
        subst (λ m. line_fault instance (take n lines) (get_or lines m no_line) ≡ None) (let s : n + 1 - 1 ≡ n = omega arith in s)
        (mapped-none (rejected_at (n + 1)) (line_fault instance (take n lines) (line_at lines (n + 1))) (back n less)) in
        rw e (rw (cut, at)
        (line-clean instance (take n lines) (whole instance others (take n lines) others_formed (taken n)) (λ m. length others + m) (get_or lines n no_line) (λ m named may. serve-behind instance others (take n lines) others_formed (taken n) (get_or lines n no_line).tag m may)
        (still-marked instance others (take n lines) others_formed (taken n)) (formed n no_line less) clean))

    here : (k < length others) ⊎ (length others ≤ k) → line_fault instance (take k (whole instance others lines others_formed formed)) (line_at (whole instance others lines others_formed formed) (k + 1)) ≡ None
    here (inl less) = in-front less
    here (inr past) =
        let e = length-append others (map (moved instance others lines others_formed formed) lines) in
        let f = length-map lines (moved instance others lines others_formed formed) in
        behind-it (k - length others) (omega arith) (omega arith)
