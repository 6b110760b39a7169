use Rattle.std.proofs.Common.{◌≡◌, ◌<◌, ◌∙◌, List, ap, arith, get_or, length}
use Rattle.std.proofs.lemmas.List.{length-set}
use Rattle.fapp_tables.specs.Indexes.{neighbours_of}
use Rattle.choice_counts.specs.declared.fill.PairCells.{PairCells}
use Rattle.choice_counts.specs.Links.{IsPairCells}
use Rattle.choice_counts.specs.Tables.{no_pair_cells}
use Rattle.choice_counts.proofs.TableLaws.{one_more, same_link}
use Rattle.choice_counts.proofs.table.Links.fill.Goals as goal

pub loop-place-init : goal.loop-place-init
loop-place-init c = record {
  count = ap (λ (ls : List PairCells). length ls) c.self.view_is ∙ c.requires.count;
  done = λ k below. absurd (omega (arith, below));
}

pub loop-place-preserved : goal.loop-place-preserved
loop-place-preserved c =
    let instance = c.args.tables.now in
    let links = c.loop-place.self-inside.links.items in
    let place = c.loop-place.place in
    let p = c.pair_at-pair in
    let start : length c.self.inside.links.items ≡ length (neighbours_of instance c.args.path) = ap (λ (ls : List PairCells). length ls) c.self.view_is ∙ c.requires.count in
    let inside : place < length links = omega (arith, c.loop-place.invariant.count, start, c.len-place-end.ensures, c.loop-place-test.true) in
    record {
      count = length-set links place c.fill.new.self ∙ c.loop-place.invariant.count;
      done = one_more (λ k link. IsPairCells instance c.args.level c.args.path (get_or (neighbours_of instance c.args.path) k 0) link) links place c.fill.new.self no_pair_cells inside c.loop-place.invariant.done
          (same_link p.result.instance.now instance p.result.level c.args.level p.result.path c.args.path p.result.other _ c.fill.new.self p.ensures.instance p.ensures.level p.ensures.path p.ensures.other c.fill.ensures);
    }

pub returns : goal.returns
returns c =
    let start : length c.self.inside.links.items ≡ length (neighbours_of c.args.tables.now c.args.path) = ap (λ (ls : List PairCells). length ls) c.self.view_is ∙ c.requires.count in
    record {
      count = c.loop-place.invariant.count;
      each = λ k below. c.loop-place.invariant.done k (omega (arith, below, start, c.len-place-end.ensures, c.loop-place-test.false));
    }
