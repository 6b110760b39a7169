-- What an open verdict says of the jobs.
use Rattle.std.proofs.Common.{◌≡◌, ◌⊎◌, ℕ, ◌+◌, ◌-◌, ◌*◌, ◌<◌, ◌≤◌, max, List, [], length, map, get_or, Contains, Some, None, refl, sym, ap, ◌∙◌, subst, inl, inr, ⊎_elim, arith, eqb, mul_comm, mul-le-mul_right, take, drop, zero, suc, ◌∷◌}
use Rattle.std.specs.List.{fold}
use Rattle.std.proofs.lemmas.Bool.{cases_lt, cond-false, cond-true, eqb-true, cases_Bool}
use Rattle.std.proofs.lemmas.List.{get_or-drop, get_or-take, get_or_default, length-drop, length-take}
use Rattle.std.proofs.lemmas.List.Elements.{All-contains, Contains-get_or}
use Rattle.fapp_model.specs.declared.instance.Instance.{Instance}
use Rattle.fapp_model.specs.declared.literal.Literal.{Literal}
use Rattle.fapp_model.specs.declared.tag.Tag.{Tag}
use Rattle.fapp_model.specs.declared.triple.Triple.{Triple}
use Rattle.fapp_model.specs.Costs.{cost}
use Rattle.fapp_model.specs.Instances.{IsInstance}
use Rattle.fapp_model.specs.Least.{IsFeasible, Least}
use Rattle.fapp_model.specs.Levels.{levels_of}
use Rattle.fapp_model.specs.Tags.{code_of, triple_from}
use Rattle.fapp_model.specs.Triples.{IsBelow}
use Rattle.fapp_model.specs.search.Jobs.{job_count, job_level, job_number, prefixes}
use Rattle.fapp_model.specs.search.Partials.{Extends}
use Rattle.cert_lines.specs.declared.answer.Verdict.TheVariants.{Open}
use Rattle.search_log.specs.Contents.{KnownRow}
use Rattle.search_log.specs.declared.job.Outcome.{Outcome}
use Rattle.search_log.specs.declared.job.Outcome.TheVariants.{Refuted, Moot, Spent}
use Rattle.search_log.specs.LogStates.{LogState}
use Rattle.settle_laws.specs.Levels.{level_code}
use Rattle.fapp_model.proofs.CodeOrder.{below-codes}
use Rattle.settle_laws.proofs.FullPrefixes.{cost-back}
use Rattle.settle_laws.proofs.TagCodes.{code-back}
use Rattle.tries_laws.proofs.JobParts.{job-below, job-level, job-prefix}
use Rattle.tries_laws.proofs.PlanPrefixes.{plan-prefix}
use Rattle.fapp_plan.specs.Outcomes.{Placed, greatest_of, outcomes_at, refuted_at, refuted_code, refuted_everywhere}
use Rattle.fapp_plan.specs.Plans.{Split}
use Rattle.fapp_plan.specs.VerdictRule.{IsOpenOf, lower_code, open_level}
use Rattle.fapp_plan.proofs.Refuted.{least-reached}
use Rattle.fapp_workers.specs.Gathered.{AreSettled, IsPlacedBy, KeepsCost, log_at}
use Rattle.fapp_workers.specs.VerdictLaws.{IsEnough, IsLevelWithinFuel, IsOpenFor, IsSolvedRun, IsWithinFuel, NamesJob}
use Rattle.fapp_workers.specs.Outcomes.{IsBeyond, IsPrefixSettledBy}
use Rattle.fapp_workers.proofs.LeastWords.{IsOfLevel, cost-level, implied-cost, kept-plan, open-level}

-- ---- what a prefix is refuted at

fold-high : (a n : ℕ) (xs : List ℕ) → n ≤ a → n ≤ fold max a xs
fold-high a n [] h = h
fold-high a n (x ∷ xs) h = fold-high (max a x) n xs (omega (arith, h))

greatest-high : (a : ℕ) (outcomes : List Placed) (k : ℕ) → k < length outcomes → refuted_code (get_or outcomes k None) ≤ fold max a (map refuted_code outcomes)
greatest-high a [] k inside = absurd (omega (arith, inside))
greatest-high a (o ∷ outcomes) zero inside = fold-high (max a (refuted_code o)) (refuted_code o) (map refuted_code outcomes) (omega arith)
greatest-high a (o ∷ outcomes) (suc k) inside = greatest-high (max a (refuted_code o)) outcomes k (omega (arith, inside))

one-more-mul : (a b : ℕ) → (a + 1) * b ≡ a * b + b
one-more-mul a b = omega arith

module _ (instance : Instance) (split : ℕ) (outcomes : List Placed) (planned : length outcomes ≡ job_count instance split) where
  -- the outcome of a job is among those of its prefix
  pub refuted-high : (place level : ℕ) → place < length (prefixes instance split) → level ≤ levels_of instance →
      refuted_code (get_or outcomes (job_number instance place level) None) ≤ refuted_at instance outcomes place
  unfolding refuted_at
  refuted-high place level inside within =
      let first = place * (levels_of instance + 1) in
      let k = levels_of instance - level in
      let turned : (levels_of instance + 1) * place ≡ first = mul_comm (levels_of instance + 1) place in
      let number : job_number instance place level ≡ first + k = ap (λ n. n + k) turned in
      let room : first + (levels_of instance + 1) ≤ length outcomes = omega (arith, planned, mul-le-mul_right (levels_of instance + 1) inside, mul_comm (levels_of instance + 1) (length (prefixes instance split)), one-more-mul place (levels_of instance + 1)) in
      let taken : first + (levels_of instance + 1) - first ≡ levels_of instance + 1 = omega arith in
      let at : get_or (outcomes_at instance outcomes place) k None ≡ get_or outcomes (first + k) None =
      ap (λ n. get_or (take n (drop first outcomes)) k None) taken ∙ (get_or-take (levels_of instance + 1) (drop first outcomes) k None (omega arith) ∙ get_or-drop first outcomes k None) in
      let count : k < length (outcomes_at instance outcomes place) = omega (arith, ap (λ n. length (take n (drop first outcomes))) taken, length-take (levels_of instance + 1) (drop first outcomes), length-drop first outcomes, room, within) in
      subst (λ o. refuted_code o ≤ greatest_of (map refuted_code (outcomes_at instance outcomes place))) (at ∙ ap (λ n. get_or outcomes n None) (sym number))
      (greatest-high 0 (outcomes_at instance outcomes place) k count)

-- ---- a prefix by its place

place-of : (instance : Instance) (split : ℕ) (own : List Literal) → Contains (prefixes instance split) own → (place : ℕ) × (place < length (prefixes instance split)) × (get_or (prefixes instance split) place [] ≡ own)
place-of instance split own has = (has.0, has.1, get_or_default (prefixes instance split) has.0 [] own has.1 ∙ has.2)

module _ (split : Split) (fuel : ℕ) (rows : List KnownRow) (logs : List LogState) (word : ℕ) (outcomes : List Placed) (settled : AreSettled split fuel rows logs word outcomes) where
  -- ---- the outcome of a job

  job-out : (place level : ℕ) → place < length (prefixes split.instance split.split) → level ≤ levels_of split.instance →
      IsPlacedBy split fuel rows logs word (job_number split.instance place level) (get_or outcomes (job_number split.instance place level) None)
  job-out place level inside within = settled.each (job_number split.instance place level) (job-below split.instance split.split place level inside within)

  -- what it says, at the job's own level and prefix
  pub record IsJobOutcome (place level : ℕ) (outcome : Outcome) : Type 0 where
    pub log : LogState
    pub is : IsPrefixSettledBy split.instance level (get_or (prefixes split.instance split.split) place []) fuel rows log.lines word outcome

  placed-out : (place level : ℕ) (o : Placed) → level ≤ levels_of split.instance → IsPlacedBy split fuel rows logs word (job_number split.instance place level) o →
      (outcome : Outcome) × (refuted_code o ≡ refuted_code (Some (0, outcome))) × IsJobOutcome place level outcome
  placed-out place level None within h = absurd h
  placed-out place level (Some placed) within h = (
    placed.1,
    refl,
    record {
      log = log_at logs placed.0;
      is = subst (λ q. IsPrefixSettledBy split.instance q (get_or (prefixes split.instance split.split) place []) fuel rows (log_at logs placed.0).lines word placed.1) (job-level split.instance place level within)
          (subst (λ p. IsPrefixSettledBy split.instance (job_level split.instance (job_number split.instance place level)) p fuel rows (log_at logs placed.0).lines word placed.1) (job-prefix split.instance split.split place level) h.1);
    },
  )

  -- a job that is refuted below its level and the word, or not at all, is spent; then it has more tries than its fuel
  pub spent-by : (place level code : ℕ) (outcome : Outcome) → IsJobOutcome place level outcome → refuted_code (Some (0, outcome)) < code → code ≤ level_code (level + 1) → code ≤ word → level_code level < word →
      IsBeyond split.instance level (get_or (prefixes split.instance split.split) place []) fuel
  spent-by place level code (Refuted line tag) o low reach most above = absurd (omega (arith, o.is.1, low, reach, most))
  spent-by place level code (Moot seen) o low reach most above = absurd (omega (arith, o.is.0, o.is.1, above))
  spent-by place level code Spent o low reach most above = o.is

  pub beyond-at : (place level code : ℕ) → place < length (prefixes split.instance split.split) → level ≤ levels_of split.instance → refuted_at split.instance outcomes place < code → code ≤ level_code (level + 1) → code ≤ word → level_code level < word →
      IsBeyond split.instance level (get_or (prefixes split.instance split.split) place []) fuel
  beyond-at place level code inside within low reach most above =
      let at = placed-out place level (get_or outcomes (job_number split.instance place level) None) within (job-out place level inside within) in
      let high = refuted-high split.instance split.split outcomes settled.planned place level inside within in
      spent-by place level code at.0 at.2 (omega (arith, high, low, at.1)) reach most above

  -- an assignment whose job is not spent costs at least the word
  cost-by : (valid : IsInstance split.instance) (plan : List ℕ) (place : ℕ) (outcome : Outcome) → IsJobOutcome place (cost split.instance plan).k outcome → IsFeasible split.instance plan →
      Extends plan (get_or (prefixes split.instance split.split) place []) → IsWithinFuel split.instance (cost split.instance plan).k (get_or (prefixes split.instance split.split) place []) fuel →
      word ≤ code_of (cost split.instance plan)
  cost-by valid plan place (Refuted line tag) o feasible extends within =
      let r = o.is.2 in
      let high : r.content.tag ≤ code_of (cost split.instance plan) = implied-cost split.instance plan (get_or (prefixes split.instance split.split) place []) r.content.lits r.content.tag valid r.served.implied r.contained feasible extends in
      omega (arith, o.is.1, r.reaches, high, (cost-level split.instance plan valid).below)
  cost-by valid plan place (Moot seen) o feasible extends within = omega (arith, o.is.0, o.is.1, (cost-level split.instance plan valid).least)
  cost-by valid plan place Spent o feasible extends within = absurd (omega (arith, o.is within.tries within.are, within.few))

  pub cost-reaches : IsInstance split.instance → (plan : List ℕ) (own : List Literal) → IsFeasible split.instance plan → Contains (prefixes split.instance split.split) own → Extends plan own →
      IsWithinFuel split.instance (cost split.instance plan).k own fuel → word ≤ code_of (cost split.instance plan)
  cost-reaches valid plan own feasible has extends within =
      let p = place-of split.instance split.split own has in
      let level = (cost split.instance plan).k in
      let small = (cost-level split.instance plan valid).within in
      let at = placed-out p.0 level (get_or outcomes (job_number split.instance p.0 level) None) small (job-out p.0 level p.1 small) in
      cost-by valid plan p.0 at.0 at.2 feasible (subst (Extends plan) (sym p.2) extends) (subst (λ o. IsWithinFuel split.instance level o fuel) (sym p.2) within)

-- ---- an open verdict

module _ (split : Split) (fuel : ℕ) (rows : List KnownRow) (logs : List LogState) (word arcs : ℕ) (outcomes : List Placed) (best : Triple) (lower : Tag) (level : ℕ) (prefix : List Literal)
    (s : IsSolvedRun split fuel rows logs word arcs outcomes (Open best lower level prefix)) where
  opened : IsOpenOf split.instance split.split outcomes word arcs best lower level prefix
  opened = s.ruled

  of-level : IsOfLevel split.instance word (open_level split.instance (triple_from word))
  of-level = open-level split.instance word s.shown (omega (arith, opened.unsettled))

  abbrev own : List Literal
  own = get_or (prefixes split.instance split.split) opened.place []

  beyond : IsBeyond split.instance (open_level split.instance (triple_from word)) (get_or (prefixes split.instance split.split) opened.place []) fuel
  beyond = beyond-at split fuel rows logs word outcomes s.settled opened.place (open_level split.instance (triple_from word)) word opened.open_at.inside of-level.within opened.open_at.below of-level.most (omega arith) of-level.above

  level-of : ((best.k ≡ levels_of split.instance + 1) × (level ≡ levels_of split.instance)) ⊎ ((best.k ≤ levels_of split.instance) × (level ≡ best.k))
  level-of = ⊎_elim
      (λ top.
      let e = eqb-true best.k (levels_of split.instance + 1) top in
      inl (e, opened.at_level ∙ (ap (open_level split.instance) (sym opened.shown) ∙ cond-true (eqb best.k (levels_of split.instance + 1)) (levels_of split.instance) best.k top)))
      (λ low.
      let at : level ≡ best.k = opened.at_level ∙ (ap (open_level split.instance) (sym opened.shown) ∙ cond-false (eqb best.k (levels_of split.instance + 1)) (levels_of split.instance) best.k low) in
      inr (omega (arith, of-level.within, opened.at_level, at), at))
      (cases_Bool (eqb best.k (levels_of split.instance + 1)))

  pub names-job : NamesJob split fuel best level prefix
  names-job = record {
    planned_prefix = get_or (prefixes split.instance split.split) opened.place [];
    planned = Contains-get_or (prefixes split.instance split.split) opened.place [] opened.open_at.inside;
    named = opened.named;
    at_level = level-of;
    beyond = subst (λ q. IsBeyond split.instance q (get_or (prefixes split.instance split.split) opened.place []) fuel) (sym opened.at_level) beyond;
  }

  not-within : (q : ℕ) → q ≡ open_level split.instance (triple_from word) → IsLevelWithinFuel split fuel q → ⊥
  not-within q same within =
      let w : IsWithinFuel split.instance q own fuel = All-contains (λ p. IsWithinFuel split.instance q p fuel) (prefixes split.instance split.split) own within (Contains-get_or (prefixes split.instance split.split) opened.place [] opened.open_at.inside) in
      let b : IsBeyond split.instance q own fuel = subst (λ p. IsBeyond split.instance p own fuel) (sym same) beyond in
      absurd (omega (arith, b w.tries w.are, w.few))

  -- levels within the fuel are below the word's
  below-word : (m : ℕ) → ((q : ℕ) → q < m → IsLevelWithinFuel split fuel q) → m ≤ open_level split.instance (triple_from word)
  below-word m within = ⊎_elim
      (λ less. absurd (not-within (open_level split.instance (triple_from word)) refl (within (open_level split.instance (triple_from word)) less)))
      (λ high. high)
      (cases_lt (open_level split.instance (triple_from word)) m)

  reaches-at : (m : ℕ) → 0 < m → ((q : ℕ) → q < m → IsLevelWithinFuel split fuel q) → (at : ℕ) → at < length (prefixes split.instance split.split) → level_code m ≤ refuted_at split.instance outcomes at
  reaches-at m some within at inside = ⊎_elim
      (λ low.
      let small = below-word m within in
      let before : m - 1 + 1 ≡ m = omega (arith, some) in
      let here : IsBeyond split.instance (m - 1) (get_or (prefixes split.instance split.split) at []) fuel =
      beyond-at split fuel rows logs word outcomes s.settled at (m - 1) (level_code m) inside (omega (arith, small, of-level.within)) low (omega (arith, ap level_code before)) (omega (arith, small, of-level.above)) (omega (arith, small, of-level.above, some)) in
      let w : IsWithinFuel split.instance (m - 1) (get_or (prefixes split.instance split.split) at []) fuel =
      All-contains (λ p. IsWithinFuel split.instance (m - 1) p fuel) (prefixes split.instance split.split) (get_or (prefixes split.instance split.split) at []) (within (m - 1) (omega (arith, some))) (Contains-get_or (prefixes split.instance split.split) at [] inside) in
      absurd (omega (arith, here w.tries w.are, w.few)))
      (λ high. high)
      (cases_lt (refuted_at split.instance outcomes at) (level_code m))

  pub reaches : (m : ℕ) → ((q : ℕ) → q < m → IsLevelWithinFuel split fuel q) → level_code m ≤ lower.code
  unfolding lower_code refuted_everywhere
  reaches m within = ⊎_elim
      (λ some.
      let least = least-reached (refuted_at split.instance outcomes) (length (prefixes split.instance split.split)) (omega (arith, opened.open_at.inside)) in
      omega (arith, opened.bound, least.2, reaches-at m some within least.0 least.1))
      (λ none. omega (arith, none))
      (cases_lt 0 m)

  best-code : code_of best ≡ word
  best-code = ap code_of opened.shown ∙ code-back word

  pub open-for : IsOpenFor split fuel best lower level prefix
  open-for = record {
    names = names-job;
    unsettled = omega (arith, best-code, opened.bound, opened.unsettled);
    reaches = λ m _ within. reaches m within;
    shown = λ plan own feasible has extends within. omega (arith, best-code, cost-reaches split fuel rows logs word outcomes s.settled s.valid plan own feasible has extends within);
  }

  -- ---- with enough fuel for one level there is no open verdict

  kept-least : (plan : List ℕ) → Least split.instance plan → word ≤ code_of (cost split.instance plan) → KeepsCost logs word → word ≡ code_of (cost split.instance plan)
  kept-least plan least low k =
      let kept = kept-plan split.instance logs word s.least k in
      ⊎_elim
      (λ less. absurd (least.least k.best.plan kept.0
      (subst (λ t. IsBelow t (cost split.instance plan)) (cost-back split.instance k.best.plan s.valid)
      (subst (λ t. IsBelow (triple_from (code_of (cost split.instance k.best.plan))) t) (cost-back split.instance plan s.valid)
      (below-codes (code_of (cost split.instance k.best.plan)) (code_of (cost split.instance plan)) (omega (arith, less, kept.1)))))))
      (λ high. omega (arith, low, high))
      (cases_lt word (code_of (cost split.instance plan)))

  word-kept : (plan : List ℕ) → Least split.instance plan → word ≤ code_of (cost split.instance plan) → word ≡ code_of (cost split.instance plan)
  word-kept plan least low = ⊎_elim
      (λ none. absurd (omega (arith, none.0, low, (cost-level split.instance plan s.valid).below_top)))
      (λ (k : KeepsCost logs word). kept-least plan least low k)
      s.least.is

  same-level : (k : ℕ) → k ≤ levels_of split.instance → level_code k ≤ word → (0 < k → level_code k < word) → word < level_code (k + 1) → k ≡ open_level split.instance (triple_from word)
  same-level k within low more high = ⊎_elim
      (λ some. omega (arith, of-level.above, of-level.most, low, high, more some))
      (λ none. omega (arith, of-level.above, of-level.most, low, high, none))
      (cases_lt 0 k)

  enough-least : (plan : List ℕ) → Least split.instance plan → IsLevelWithinFuel split fuel (cost split.instance plan).k → ⊥
  enough-least plan least within =
      let c = cost-level split.instance plan s.valid in
      let own = plan-prefix split.instance split.split plan least.feasible.assignment in
      let here : IsWithinFuel split.instance (cost split.instance plan).k own.0 fuel = All-contains (λ p. IsWithinFuel split.instance (cost split.instance plan).k p fuel) (prefixes split.instance split.split) own.0 within own.1 in
      let low = cost-reaches split fuel rows logs word outcomes s.settled s.valid plan own.0 least.feasible own.1 own.2 here in
      let same = word-kept plan least low in
      not-within (cost split.instance plan).k
      (same-level (cost split.instance plan).k c.within (omega (arith, same, c.least)) (λ some. omega (arith, same, c.more some)) (omega (arith, same, c.below))) within

  enough-none : ((plan : List ℕ) → IsFeasible split.instance plan → ⊥) → IsLevelWithinFuel split fuel (levels_of split.instance) → ⊥
  enough-none none within = ⊎_elim
      (λ top. not-within (levels_of split.instance) (omega (arith, of-level.above, of-level.most, of-level.within, top.0)) within)
      (λ (k : KeepsCost logs word). none k.best.plan (kept-plan split.instance logs word s.least k).0)
      s.least.is

  pub enough : IsEnough split fuel → ⊥
  enough (inl least) = enough-least least.0 least.1 least.2
  enough (inr none) = enough-none none.0 none.1
