-- Choices of a node are passed by, one after another.
use Rattle.std.proofs.Common.{◌≡◌, ℕ, ◌+◌, ◌-◌, ◌<◌, ◌≤◌, false, List, [], ◌∷◌, ◌++◌, length, Some, refl, sym, ap, subst, ◌∙◌, arith}
use Rattle.fapp_model.specs.declared.instance.Instance.{Instance}
use Rattle.fapp_model.specs.declared.literal.Literal.{Literal}
use Rattle.fapp_model.specs.declared.tag.Tag.{Tag}
use Rattle.fapp_model.specs.Assignments.{count_at}
use Rattle.fapp_model.specs.InstanceTags.{IsTagFor}
use Rattle.fapp_model.specs.Tags.{triple_from}
use Rattle.fapp_model.specs.search.Dead.{Dead}
use Rattle.fapp_model.specs.search.Partials.{literal, names}
use Rattle.search_log.specs.declared.line.Ref.TheVariants.{Own}
use Rattle.search_log.specs.LogStates.{LogState}
use Rattle.settle_laws.specs.declared.node.Node.{Node}
use Rattle.settle_laws.specs.Noted.{by_choice}
use Rattle.settle_laws.specs.Passed.{Passes}
use Rattle.settle_laws.specs.Worlds.{AreServed}
use Rattle.settle_laws.proofs.Passing.{cited-next, dead-next}
use Rattle.subtree_search.specs.Explaining.{IsNodeToExplain}
use Rattle.subtree_search.specs.Recalling.{IsRecalled}
use Rattle.search_log.specs.declared.line.LogLine.{LogLine}
use Rattle.std.specs.List.{slice_get}

pub passes-none : (instance : Instance) (first : ℕ) (literals : List Literal) (log : LogState) (node : Node) → node.choice ≤ node.count → Passes instance first literals log node node
passes-none instance first literals log node within = record {
  tag_is = refl;
  path_is = refl;
  count_is = refl;
  later = omega arith;
  within = within;
  goes = λ level limit entered now prefix log_is served trying. trying;
}

pub passes-trans : (instance : Instance) (first : ℕ) (literals : List Literal) (log : LogState) (a b c : Node) → Passes instance first literals log a b → Passes instance first literals log b c → Passes instance first literals log a c
passes-trans instance first literals log a b c p q = record {
  tag_is = q.tag_is ∙ p.tag_is;
  path_is = q.path_is ∙ p.path_is;
  count_is = q.count_is ∙ p.count_is;
  later = omega (arith, p.later, q.later);
  within = q.within;
  goes = λ level limit entered now prefix log_is served trying. q.goes level limit entered now prefix log_is served (p.goes level limit entered now prefix log_is served trying);
}

pub asked-passed : (instance : Instance) (first : ℕ) (literals : List Literal) (log : LogState) (old new : Node) → IsNodeToExplain instance literals old → Passes instance first literals log old new → IsNodeToExplain instance literals new
asked-passed instance first literals log old new asked p = record {
  valid = asked.valid;
  partial = asked.partial;
  tag = subst (λ (t : Tag). IsTagFor instance t) (sym p.tag_is) asked.tag;
  small = subst (λ n. n < length instance.paths) (sym p.path_is) asked.small;
  counted = p.count_is ∙ (asked.counted ∙ ap (λ n. count_at instance n) (sym p.path_is));
  apart = subst (λ n. names literals n ≡ false) (sym p.path_is) asked.apart;
}

module _ (instance : Instance) (first : ℕ) (literals : List Literal) (log : LogState) (node : Node) (asked : IsNodeToExplain instance literals node) (more : node.choice < node.count) (new : Node) (tag_is : new.tag ≡ node.tag) (path_is : new.path ≡ node.path) (count_is : new.count ≡ node.count) (choice_is : new.choice ≡ node.choice + 1) where
  pub dead-passes : Dead instance (triple_from node.tag.code) (literal node.path node.choice ∷ literals) → new.refs ≡ node.refs → Passes instance first literals log node new
  dead-passes dead refs_are = record {
    tag_is = tag_is;
    path_is = path_is;
    count_is = count_is;
    later = omega (arith, choice_is);
    within = omega (arith, choice_is, count_is, more);
    goes = λ level limit entered now prefix log_is served trying. dead-next instance asked.valid level limit literals prefix entered now node trying more dead new tag_is path_is count_is choice_is refs_are;
  }

  pub cited-passes : (place : ℕ) → IsRecalled log.lines first node.tag.code (literals ++ literal node.path node.choice ∷ []) place → new.refs ≡ node.refs ++ by_choice node.choice (Own place) ∷ [] → Passes instance first literals log node new
  cited-passes place r refs_are = record {
    tag_is = tag_is;
    path_is = path_is;
    count_is = count_is;
    later = omega (arith, choice_is);
    within = omega (arith, choice_is, count_is, more);
    goes = λ level limit entered now prefix log_is served trying. cited-next instance asked.valid level limit literals prefix entered now node trying more first place r.says.line
        (subst (λ (l : LogState). AreServed instance first l.lines) (sym log_is) served) r.own
        (subst (λ (l : LogState). slice_get l.lines place ≡ Some r.says.line) (sym log_is) r.says.there) r.says.reaches r.says.contained new tag_is path_is count_is choice_is refs_are;
  }
