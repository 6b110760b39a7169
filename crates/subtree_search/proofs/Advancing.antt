-- What the steps of a search do to the nodes that are open.
use Rattle.std.proofs.Common.{◌≡◌, ℕ, zero, suc, ◌+◌, ◌-◌, ◌<◌, ◌≤◌, ◌^◌, Bool, true, false, not, IsTrue, List, [], ◌∷◌, ◌++◌, length, take, min, Contains, Option, Some, None, Result, Ok, Err, refl, sym, ap, subst, ◌∙◌, arith, sum_by}
use Rattle.std.specs.Result.{IsErr}
use Rattle.std.proofs.lemmas.List.{length-append, take-append-le, take_all}
use Rattle.std.proofs.lemmas.List.Sums.{sum_by_push}
use Rattle.std.proofs.lemmas.Option.{slice_get_within}
use Rattle.fapp_model.specs.declared.instance.Instance.{Instance}
use Rattle.std.specs.List.{slice_get}
use Rattle.fapp_model.specs.declared.literal.Literal.{Literal}
use Rattle.fapp_model.specs.declared.tag.Tag.{Tag}
use Rattle.search_log.specs.declared.line.LogLine.{LogLine}
use Rattle.search_log.specs.declared.line.Ref.TheVariants.{Own, Row}
use Rattle.fapp_model.specs.Instances.{IsInstance}
use Rattle.fapp_model.specs.Levels.{levels_of}
use Rattle.fapp_model.specs.search.Partials.{AreLiterals, literal, names}
use Rattle.fapp_model.specs.search.Prefixes.{IsPrefix}
use Rattle.cert_lines.proofs.ListLaws.{few_choices}
use Rattle.search_log.specs.LogStates.{LogState}
use Rattle.tries_laws.proofs.PrefixParts.{prefix-is_partial}
use Rattle.settle_laws.specs.declared.found.Found.{Found}
use Rattle.settle_laws.specs.declared.found.Found.TheVariants.{Dead, Settled, Moot, Spent}
use Rattle.settle_laws.specs.declared.node.Node.{Node}
use Rattle.nogood.specs.Rows.{row_literals}
use Rattle.search_log.specs.declared.shared.Cite.{Cite}
use Rattle.settle_laws.specs.Explained.{AreContents, Explains}
use Rattle.settle_laws.specs.Founds.{Searched, refused}
use Rattle.settle_laws.specs.Lines.{IsLined}
use Rattle.settle_laws.specs.Noted.{IsEnding, Notes}
use Rattle.settle_laws.specs.OpenNodes.{IsTrying, OpenTo}
use Rattle.settle_laws.specs.RowLines.{IsLinedByRow}
use Rattle.settle_laws.specs.Trying.{Trying}
use Rattle.settle_laws.specs.Worlds.{AreServed, Keeps, World, world}
use Rattle.settle_laws.proofs.Ends.{branch-searched}
use Rattle.settle_laws.proofs.NextPaths.{next-small}
use Rattle.settle_laws.proofs.Opening.{Passing, open-end, open-kept, open-map, open-out, open-pop, open-prefix, open-push}
use Rattle.settle_laws.specs.Passed.{Passes}
use Rattle.settle_laws.proofs.Keeping.{keeps-same, keeps-trans}
use Rattle.settle_laws.proofs.RowClosing.{row-closes, row-served}
use Rattle.settle_laws.proofs.OneMoreChoice.{ends, ends-unnoted, goes-on, jumps}
use Rattle.subtree_search.specs.Walks.{work_left}
use Rattle.subtree_search.specs.SearchSteps.{ComesTo, IsAdvanced, IsBack, IsNoted, IsVisited}

pub snoc-same : {X : Type 0} → (xs ys : List X) (x y : X) → xs ++ x ∷ [] ≡ ys ++ y ∷ [] → (xs ≡ ys) × (x ≡ y)
snoc-same [] [] x y e = (refl, cc)
snoc-same [] (b ∷ ys) x y e = absurd (omega (arith, ap length e, length-append ys (y ∷ [])))
snoc-same (a ∷ xs) [] x y e = absurd (omega (arith, ap length e, length-append xs (x ∷ [])))
snoc-same (a ∷ xs) (b ∷ ys) x y e =
    let rest : xs ++ x ∷ [] ≡ ys ++ y ∷ [] = cc in
    let first : a ≡ b = cc in
    let r = snoc-same xs ys x y rest in
    (ap (λ zs. a ∷ zs) r.0 ∙ ap (λ z. z ∷ ys) first, r.1)

-- what a literal pushed and taken back leaves
pub front-of : {X : Type 0} → (xs : List X) (a : X) (ys : List X) → ys ≡ xs ++ a ∷ [] → take (length ys - 1) ys ≡ xs
front-of xs a ys e = subst (λ zs. take (length zs - 1) zs ≡ xs) (sym e)
    (let short : length (xs ++ a ∷ []) - 1 ≡ length xs = omega (arith, length-append xs (a ∷ [])) in
    ap (λ n. take n (xs ++ a ∷ [])) short ∙ (take-append-le (length xs) xs (a ∷ []) (omega arith) ∙ take_all (length xs) xs (omega arith)))

last-at : {X : Type 0} → (xs : List X) (x : X) (n : ℕ) → slice_get xs n ≡ Some x → length xs ≡ n + 1 → xs ≡ take n xs ++ x ∷ []
last-at [] x n e l = absurd (omega (arith, l))
last-at (y ∷ []) x zero e l = cc
last-at (y ∷ z ∷ zs) x zero e l = absurd (omega (arith, l))
last-at (y ∷ ys) x (suc n) e l = ap (λ ws. y ∷ ws) (last-at ys x n e (omega (arith, l)))

pub last-of : {X : Type 0} → (xs : List X) (x : X) → slice_get xs (length xs - 1) ≡ Some x → xs ≡ take (length xs - 1) xs ++ x ∷ []
last-of xs x e = last-at xs x (length xs - 1) e (omega (arith, slice_get_within xs (length xs - 1) x e))

pub not-false : (b : Bool) → IsTrue (not b) → b ≡ false
not-false false t = refl
not-false true t = cc

-- the innermost literals
pub record Innermost (instance : Instance) (level : ℕ) (pushed : List Literal) (now : World) (node : Node) : Type 0 where
  pub prefix : IsPrefix instance pushed
  pub entered : World
  pub trying : Trying instance level pushed entered now node

module _ (instance : Instance) (level : ℕ) (root : List Literal) (from : World) (prefix : IsPrefix instance root) where
  abbrev pub Tries : List Literal → World → Node → List Literal → World → Type 0
  Tries pushed now node reached entered = (pushed ≡ reached) × Trying instance level reached entered now node

  pub trying-at : (nodes outer : List Node) (node : Node) (pushed : List Literal) (now : World) → nodes ≡ outer ++ node ∷ [] → IsTrying instance level root from nodes pushed now → OpenTo (Tries pushed now node) instance level root from outer
  trying-at nodes outer node pushed now e h =
      let same = snoc-same h.outer outer h.node node (sym h.nodes_are ∙ e) in
      subst (λ ns. OpenTo (Tries pushed now node) instance level root from ns) same.0
      (subst (λ n. OpenTo (Tries pushed now n) instance level root from h.outer) same.1 h.inside)

  pub innermost : (outer : List Node) (node : Node) (pushed : List Literal) (now : World) → OpenTo (Tries pushed now node) instance level root from outer → Innermost instance level pushed now node
  innermost outer node pushed now h = open-out instance level (Innermost instance level pushed now node) outer root from
      (open-map instance level (λ reached entered. IsPrefix instance reached × Tries pushed now node reached entered) (λ reached entered. Innermost instance level pushed now node)
      (λ reached entered p. record {
        prefix = subst (IsPrefix instance) (sym p.1.0) p.0;
        entered = entered;
        trying = subst (λ lits. Trying instance level lits entered now node) (sym p.1.0) p.1.1;
      })
      outer root from (open-prefix instance level (Tries pushed now node) outer root from prefix h))

  -- choices of the innermost node are passed by
  pub passed-by : level ≤ levels_of instance → (outer : List Node) (node new : Node) (pushed : List Literal) (now : World) (first : ℕ) → first ≡ length from.log.lines → Passes instance first pushed now.log node new →
      OpenTo (Tries pushed now node) instance level root from outer → OpenTo (Tries pushed now new) instance level root from outer
  passed-by within outer node new pushed now first begins p h = open-map instance level (λ reached entered. Keeps instance from entered × (IsPrefix instance reached × Tries pushed now node reached entered)) (Tries pushed now new)
      (λ reached entered t. (
        t.1.1.0,
        subst (λ lits. Trying instance level lits entered now new) t.1.1.0
            (p.goes level within entered now (subst (λ lits. IsPrefix instance lits) (sym t.1.1.0) t.1.0) refl
            (subst (λ n. AreServed instance n now.log.lines) (sym begins) (keeps-trans instance from entered now t.0 t.1.1.1.keeps).served)
            (subst (λ lits. Trying instance level lits entered now node) (sym t.1.1.0) t.1.1.1)),
      ))
      outer root from (open-kept instance level (λ reached entered. IsPrefix instance reached × Tries pushed now node reached entered) outer root from from (keeps-same instance from) (open-prefix instance level (Tries pushed now node) outer root from prefix h))

  module _ (valid : IsInstance instance) (within : level ≤ levels_of instance) (outer : List Node) (node : Node) (pushed : List Literal) (now : World) (h : OpenTo (Tries pushed now node) instance level root from outer) where
    -- the node is closed
    module _ {E : Type 0} (done : node.choice ≡ node.count) (log : LogState) (result : Result Found E) (cites : List Cite) (contents : AreContents now.shared.copied cites) (fewer : List Literal) (why : Explains instance cites now.log.lines pushed fewer node) (lined : IsLined instance fewer node.tag (Some node.path) node.refs now.log log result) where
      closes : OpenTo (λ reached entered. (pushed ≡ reached) × Searched instance level reached entered (world now.fuel now.bound now.shared log) result) instance level root from outer
      closes = open-map instance level (λ reached entered. IsPrefix instance reached × Tries pushed now node reached entered)
          (λ reached entered. (pushed ≡ reached) × Searched instance level reached entered (world now.fuel now.bound now.shared log) result)
          (λ reached entered p. (
            p.1.0,
            branch-searched instance valid level within reached p.0 (prefix-is_partial instance reached p.0) entered now node p.1.1 done log cites contents fewer
                (subst (λ lits. Explains instance cites now.log.lines lits fewer node) p.1.0 why) result lined,
          ))
          outer root from (open-prefix instance level (Tries pushed now node) outer root from prefix h)

      pub closes-ending : IsEnding result → Searched instance level root from (world now.fuel now.bound now.shared log) result
      closes-ending ending = open-end instance level result ending (world now.fuel now.bound now.shared log) outer root from
          (open-map instance level (λ reached entered. (pushed ≡ reached) × Searched instance level reached entered (world now.fuel now.bound now.shared log) result)
          (λ reached entered. Searched instance level reached entered (world now.fuel now.bound now.shared log) result) (λ reached entered p. p.1) outer root from closes)

      pub closes-to : ComesTo instance level root from outer pushed (world now.fuel now.bound now.shared log) result
      closes-to = closes

    -- a choice of it is tried
    module _ (more : node.choice < node.count) (longer : List Literal) (longer_is : longer ≡ pushed ++ literal node.path node.choice ∷ []) (nodes : List Node) (nodes_are : nodes ≡ outer ++ node ∷ []) where
      -- with its literal, and what is so of the world that it came to
      through : (P : List Literal → World → Type 0) → P longer now → OpenTo (λ reached entered. (longer ≡ reached) × P reached entered) instance level root from nodes
      through P p = subst (λ ns. OpenTo (λ reached entered. (longer ≡ reached) × P reached entered) instance level root from ns) (sym nodes_are)
          (open-push instance level (λ reached entered. (longer ≡ reached) × P reached entered) outer node root from
          (open-map instance level (Tries pushed now node) (Passing instance level (λ reached entered. (longer ≡ reached) × P reached entered) node)
          (λ reached entered t.
          let same : longer ≡ reached ++ literal node.path node.choice ∷ [] = longer_is ∙ ap (λ lits. lits ++ literal node.path node.choice ∷ []) t.0 in
          (now, t.1, more, (same, subst (λ lits. P lits now) same p)))
          outer root from h))

      pub passes-ending : {E : Type 0} → (result : Result Found E) → IsEnding result → (after : World) → Searched instance level longer now after result → Searched instance level root from after result
      passes-ending result ending after s = open-end instance level result ending after nodes root from
          (open-map instance level (λ reached entered. (longer ≡ reached) × Searched instance level reached entered after result) (λ reached entered. Searched instance level reached entered after result)
          (λ reached entered p. p.1) nodes root from (through (λ reached entered. Searched instance level reached entered after result) s))

      pub visits : {E : Type 0} → (after_nodes : List Node) (after : World) (result : Result (Option Found) E) → IsVisited instance level longer nodes after_nodes now after result → IsAdvanced instance level root from after_nodes longer after result
      visits {E} after_nodes after (Ok (Some found)) v = subst (λ ns. ComesTo {E = E} instance level root from ns longer after (Ok found)) (sym v.0)
          (through (λ reached entered. Searched {E = E} instance level reached entered after (Ok found)) v.1)
      visits after_nodes after (Ok None) v = record {
        outer = nodes;
        node = v.node;
        nodes_are = v.added;
        inside = through (λ reached entered. Trying instance level reached entered after v.node) v.trying;
      }
      visits after_nodes after (Err e) s = passes-ending (Err e) tt after s

-- with the same instance and level
pub comes-as : {E : Type 0} → (i j : Instance) → i ≡ j → (k l : ℕ) → k ≡ l → (root : List Literal) (from : World) (nodes : List Node) (pushed : List Literal) (now : World) (result : Result Found E) → ComesTo i k root from nodes pushed now result → ComesTo j l root from nodes pushed now result
comes-as i j same k l level root from nodes pushed now result c = subst (λ x. ComesTo x l root from nodes pushed now result) same (subst (λ x. ComesTo i x root from nodes pushed now result) level c)

-- where the log is as it was
pub comes-still : {E : Type 0} → (instance : Instance) (level : ℕ) (root : List Literal) (from : World) (nodes : List Node) (pushed : List Literal) (now : World) (log : LogState) (result : Result Found E) → now.log ≡ log → ComesTo instance level root from nodes pushed now result → ComesTo instance level root from nodes pushed (world now.fuel now.bound now.shared log) result
comes-still instance level root from nodes pushed now log result same c = subst (λ l. ComesTo instance level root from nodes pushed (world now.fuel now.bound now.shared l) result) same c

-- the innermost node's path is not named
pub passed-free : (nodes given outer : List Node) (node : Node) (lits of_row : List Literal) → given ≡ nodes → lits ≡ of_row → nodes ≡ outer ++ node ∷ [] → ((o : List Node) × (n : Node) × (given ≡ o ++ n ∷ []) × (names lits n.path ≡ false)) → names of_row node.path ≡ false
passed-free nodes given outer node lits of_row same lits_are e p =
    let one = snoc-same p.0 outer p.1 node (sym p.2 ∙ (same ∙ e)) in
    subst (λ (n : Node). names of_row n.path ≡ false) one.1 (subst (λ (ls : List Literal). names ls p.1.path ≡ false) lits_are p.3)

-- what ends the search
pub comes-ending : {E : Type 0} → (instance : Instance) (level : ℕ) (root : List Literal) (from : World) (nodes : List Node) (pushed : List Literal) (now : World) (result : Result Found E) → IsEnding result → ComesTo instance level root from nodes pushed now result → Searched instance level root from now result
comes-ending instance level root from nodes pushed now result ending c = open-end instance level result ending now nodes root from
    (open-map instance level (λ reached entered. (pushed ≡ reached) × Searched instance level reached entered now result) (λ reached entered. Searched instance level reached entered now result)
    (λ reached entered p. p.1) nodes root from c)

-- ---- what was found is noted

pub advanced-err : {E : Type 0} → (instance : Instance) (level : ℕ) (root : List Literal) (from : World) (nodes : List Node) (pushed : List Literal) (now : World) (result : Result (Option Found) E) → IsErr result → ((e : E) → Searched instance level root from now (Err e)) → IsAdvanced instance level root from nodes pushed now result
advanced-err instance level root from nodes pushed now (Ok o) err f = cc
advanced-err instance level root from nodes pushed now (Err e) err f = f e

pub noted-err : {E : Type 0} → (instance : Instance) (level : ℕ) (root : List Literal) (from : World) (nodes : List Node) (pushed : List Literal) (now : World) (result : Result (Option Found) E) → IsErr result → ((e : E) → Searched instance level root from now (Err e)) → IsNoted instance level root from nodes pushed now result
noted-err instance level root from nodes pushed now (Ok o) err f = cc
noted-err instance level root from nodes pushed now (Err e) err f = f e

ended-as : (E : Type 0) (node new : Node) (found end : Found) → Notes node new found (Some end) → (found ≡ end) × IsEnding {E = E} (Ok end)
ended-as E node new (Dead tag) end notes = let e = notes.0 in cc
ended-as E node new (Settled line tag) end notes = let e = notes.0 in cc
ended-as E node new (Moot seen) end notes = let e : Moot seen ≡ end = cc in (e, subst (λ f. IsEnding {E = E} (Ok f)) e tt)
ended-as E node new Spent end notes = let e : Spent ≡ end = cc in (e, subst (λ f. IsEnding {E = E} (Ok f)) e tt)

back-anyhow : (E : Type 0) (end : Found) (root pushed : List Literal) → IsEnding {E = E} (Ok end) → IsBack end root pushed
back-anyhow E (Dead tag) root pushed none = absurd none
back-anyhow E (Settled line tag) root pushed none = absurd none
back-anyhow E (Moot seen) root pushed none = tt
back-anyhow E Spent root pushed none = tt

module _ (E : Type 0) (instance : Instance) (level : ℕ) (root : List Literal) (from : World) (prefix : IsPrefix instance root) (nodes outer : List Node) (node : Node) (nodes_are : nodes ≡ outer ++ node ∷ []) (pushed : List Literal) (now : World) (found : Found) (h : ComesTo {E = E} instance level root from nodes pushed now (Ok found)) where
  abbrev Found-inside : List Literal → World → Type 0
  Found-inside reached entered = (pushed ≡ reached) × Searched {E = E} instance level reached entered now (Ok found)

  abbrev Passed : List Literal → World → Type 0
  Passed reached entered = IsPrefix instance reached × Passing instance level Found-inside node reached entered

  passed : OpenTo Passed instance level root from outer
  passed = open-prefix instance level (Passing instance level Found-inside node) outer root from prefix
      (open-pop instance level Found-inside outer node root from (subst (λ ns. OpenTo Found-inside instance level root from ns) nodes_are h))

  pub some-pushed : 0 < length pushed
  some-pushed = open-out instance level (0 < length pushed) outer root from
      (open-map instance level Passed (λ reached entered. 0 < length pushed)
      (λ reached entered p. omega (arith, ap length p.1.3.0, length-append reached (literal node.path node.choice ∷ []))) outer root from passed)

  pub small-choice : IsInstance instance → (node.choice < node.count) × (node.choice < 2 ^ 16)
  small-choice valid = open-out instance level ((node.choice < node.count) × (node.choice < 2 ^ 16)) outer root from
      (open-map instance level Passed (λ reached entered. (node.choice < node.count) × (node.choice < 2 ^ 16))
      (λ reached entered p.
      let few = few_choices instance valid node.path (next-small instance reached p.0 node.path p.1.1.next) in
      (p.1.2, omega (arith, p.1.2, p.1.1.counted, few))) outer root from passed)

  -- the next choice comes next
  pub notes-go : IsInstance instance → level ≤ levels_of instance → (new : Node) → Notes node new found None → (after_nodes : List Node) → after_nodes ≡ outer ++ new ∷ [] → (shorter : List Literal) → shorter ≡ take (length pushed - 1) pushed → IsTrying instance level root from after_nodes shorter now
  notes-go valid within new notes after_nodes added shorter popped = record {
    outer = outer;
    node = new;
    nodes_are = added;
    inside = open-map instance level Passed (λ reached entered. (shorter ≡ reached) × Trying instance level reached entered now new)
        (λ reached entered p. (
          popped ∙ front-of reached (literal node.path node.choice) pushed p.1.3.0,
          goes-on instance level reached entered p.1.0 now node p.1.1 valid within p.0 p.1.2 found p.1.3.1 new notes,
        ))
        outer root from passed;
  }

  -- the search is over
  pub notes-end : (new : Node) (end : Found) → Notes node new found (Some end) → (back : List Literal) → Searched {E = E} instance level root from now (Ok end) × IsBack end root back
  notes-end new end notes back =
      let ended = ended-as E node new found end notes in (
        open-end instance level (Ok end) ended.1 now outer root from
            (open-map instance level Passed (λ reached entered. Searched {E = E} instance level reached entered now (Ok end))
            (λ reached entered p. ends instance level reached entered p.1.0 now node p.1.1 (Ok end) ended.1
            (subst (λ f. Searched {E = E} instance level (reached ++ literal node.path node.choice ∷ []) p.1.0 now (Ok f)) ended.0 p.1.3.1))
            outer root from passed),
        back-anyhow E end root back ended.1,
      )

  -- there was no memory
  pub notes-fail : refused {E = E} (Ok found) ≡ 0 → (e : E) → Searched instance level root from now (Err e)
  notes-fail none e = open-end instance level (Err e) tt now outer root from
      (open-map instance level Passed (λ reached entered. Searched instance level reached entered now (Err e))
      (λ reached entered p. ends-unnoted instance level reached entered p.1.0 now node p.1.1 found p.1.3.1 none e)
      outer root from passed)

  -- a line that doesn't name the node's path settles the node as well
  pub jumps-over : (n : ℕ) (tag : Tag) (line : LogLine) → found ≡ Settled (Own n) tag → slice_get now.log.lines n ≡ Some line → names line.lits node.path ≡ false → (shorter : List Literal) → shorter ≡ take (length pushed - 1) pushed → ComesTo {E = E} instance level root from outer shorter now (Ok found)
  jumps-over n tag line same there free shorter popped = open-map instance level Passed (λ reached entered. (shorter ≡ reached) × Searched {E = E} instance level reached entered now (Ok found))
      (λ reached entered p. (
        popped ∙ front-of reached (literal node.path node.choice) pushed p.1.3.0,
        subst (λ f. Searched {E = E} instance level reached entered now (Ok f)) (sym same)
            (jumps instance level reached entered p.1.0 now node p.1.1 n tag line there free
            (subst (λ f. Searched {E = E} instance level (reached ++ literal node.path node.choice ∷ []) p.1.0 now (Ok f)) same p.1.3.1)),
      ))
      outer root from passed

  pub count-few : IsInstance instance → node.count ≤ 2 ^ 16
  count-few valid = open-out instance level (node.count ≤ 2 ^ 16) outer root from
      (open-map instance level Passed (λ reached entered. node.count ≤ 2 ^ 16)
      (λ reached entered p.
      let few = few_choices instance valid node.path (next-small instance reached p.0 node.path p.1.1.next) in
      omega (arith, p.1.1.counted, few)) outer root from passed)

  -- a row that doesn't name the node's path settles the node: it is closed with a line
  module _ (valid : IsInstance instance) (within : level ≤ levels_of instance) (cites : List Cite) (contents : AreContents now.shared.copied cites) (cite : Cite) (held : Contains cites cite) (free : names (row_literals cite.content) node.path ≡ false) (tag : Tag) (same : found ≡ Settled (Row cite.row) tag) where
    pub closes-by-row : (lower : Tag) → lower.code ≡ min node.tag.code tag.code → (shorter : List Literal) → shorter ≡ take (length pushed - 1) pushed → (log : LogState) (result : Result Found E) → ((i : Instance) → AreLiterals i (row_literals cite.content) → IsLinedByRow i cite lower node.path node.count now.log log result) →
        ComesTo instance level root from outer shorter (world now.fuel now.bound now.shared log) result
    closes-by-row lower lower_is shorter popped log result lined = open-map instance level Passed (λ reached entered. (shorter ≡ reached) × Searched instance level reached entered (world now.fuel now.bound now.shared log) result)
        (λ reached entered p.
        let s = subst (λ f. Searched {E = E} instance level (reached ++ literal node.path node.choice ∷ []) p.1.0 now (Ok f)) same p.1.3.1 in
        let served = row-served instance valid level within reached p.0 entered p.1.0 now node p.1.1 p.1.2 cites contents cite held free tag s in (
          popped ∙ front-of reached (literal node.path node.choice) pushed p.1.3.0,
          row-closes instance valid level within reached p.0 entered p.1.0 now node p.1.1 p.1.2 cites contents cite held free tag s lower lower_is log result (lined instance served.lits),
        ))
        outer root from passed

-- ---- what is left to do

pub fewer-nodes : (nodes outer : List Node) (node : Node) → nodes ≡ outer ++ node ∷ [] → (fuel : ℕ) → work_left fuel outer ≤ work_left fuel nodes
fewer-nodes nodes outer node e fuel =
    let w : Node → ℕ = λ n. n.count - n.choice + 1 in
    let before : sum_by w nodes ≡ sum_by w outer + (node.count - node.choice + 1) = ap (sum_by w) e ∙ sum_by_push w outer node in
    omega (arith, before)

goes-lighter : (node new : Node) (found : Found) → Notes node new found None → node.choice < node.count → new.count - new.choice < node.count - node.choice
goes-lighter node new (Dead tag) notes less = omega (arith, notes.1.choice_is, notes.1.count_is)
goes-lighter node new (Settled line tag) notes less = omega (arith, notes.1.choice_is, notes.1.count_is)
goes-lighter node new (Moot seen) notes less = cc
goes-lighter node new Spent notes less = cc

pub notes-lighter : (nodes after outer : List Node) (node new : Node) (found : Found) → nodes ≡ outer ++ node ∷ [] → after ≡ outer ++ new ∷ [] → Notes node new found None → node.choice < node.count → (fuel : ℕ) → work_left fuel after < work_left fuel nodes
notes-lighter nodes after outer node new found e k notes less fuel =
    let w : Node → ℕ = λ n. n.count - n.choice + 1 in
    let before : sum_by w nodes ≡ sum_by w outer + (node.count - node.choice + 1) = ap (sum_by w) e ∙ sum_by_push w outer node in
    let later : sum_by w after ≡ sum_by w outer + (new.count - new.choice + 1) = ap (sum_by w) k ∙ sum_by_push w outer new in
    omega (arith, before, later, goes-lighter node new found notes less)
