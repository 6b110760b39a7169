use Rattle.std.proofs.Common.{◌≡◌, ℕ, ◌+◌, ◌<◌, ◌≤◌, cond, eqb, ◌||◌, List, length, get_or, set, count_by, ap, sym, ◌∙◌, arith}
use Rattle.std.proofs.lemmas.List.{get_or_read, take_all, length-set}
use Rattle.std.proofs.lemmas.List.FromFn.{fill_by_all}
use Rattle.std.proofs.lemmas.List.Elements.{All-same}
use Rattle.fapp_model.specs.declared.instance.Instance.{Instance}
use Rattle.fapp_model.specs.declared.limits.TheConstants.{MAX_RECORDS}
use Rattle.fapp_model.specs.declared.record.Record.{Record}
use Rattle.fapp_model.specs.Instances.{IsInstance, IsRecord}
use Rattle.fapp_model.specs.Levels.{levels_of}
use Rattle.fapp_model.specs.search.WorkOrder.{degree, names_path}
use Rattle.fapp_tables.specs.Indexes.{no_record}
use Rattle.fapp_tables.proofs.DegreeLaws.{degree_more, degree_few, two_more, y_few, degree_so_far}
use Rattle.fapp_tables.proofs.order.degrees_of.Goals as goal

here : (instance : Instance) (rs : List Record) (k : ℕ) → IsInstance instance → rs ≡ instance.records → k < length rs → IsRecord (levels_of instance) (length instance.paths) (get_or rs k no_record)
here instance rs k valid same inside =
    All-same (IsRecord (levels_of instance) (length instance.paths)) rs instance.records same valid.records k no_record inside

few : (instance : Instance) (rs : List Record) → IsInstance instance → rs ≡ instance.records → length rs ≤ MAX_RECORDS
few instance rs valid same = omega (arith, ap length same, valid.few_records)

pub overflow_add-index_mut : goal.overflow_add-index_mut
overflow_add-index_mut c =
    let valid = here c.args.instance.now _ c.loop-constraint.constraint-index c.requires c.as_slice-constraint-items.ensures c.loop-constraint-test.true in
    let inside : c.first_path.result < length c.args.instance.now.paths = omega (arith, c.first_path.ensures, valid.first) in
    let is = get_or_read c.loop-constraint.degrees.items c.first_path.result c.index_mut.result.now (omega (arith, c.loop-constraint.invariant.whole)) c.index_mut.ensures.value 0 in
    omega (
      arith,
      is,
      few c.args.instance.now _ c.requires c.as_slice-constraint-items.ensures,
      c.loop-constraint.invariant.counted c.first_path.result inside,
      degree_few c.as_slice-constraint-items.result.now c.loop-constraint.constraint-index c.first_path.result,
    )

pub overflow_add-index_mut-in-loop-constraint : goal.overflow_add-index_mut-in-loop-constraint
overflow_add-index_mut-in-loop-constraint c =
    let valid = here c.args.instance.now _ c.loop-constraint.constraint-index c.requires c.as_slice-constraint-items.ensures c.loop-constraint-test.true in
    let inside : c.second_path.result < length c.args.instance.now.paths = omega (arith, c.second_path.ensures, valid.second) in
    let is = y_few c.loop-constraint.degrees.items c.first_path.result c.second_path.result c.index_mut.result.now c.index_mut-in-loop-constraint.result.now
    (λ e. valid.different (sym c.first_path.ensures ∙ (e ∙ c.second_path.ensures))) (omega (arith, c.loop-constraint.invariant.whole)) c.index_mut-in-loop-constraint.ensures.value in
    omega (
      arith,
      is,
      few c.args.instance.now _ c.requires c.as_slice-constraint-items.ensures,
      c.loop-constraint.invariant.counted c.second_path.result inside,
      degree_few c.as_slice-constraint-items.result.now c.loop-constraint.constraint-index c.second_path.result,
    )

pub loop-constraint-preserved : goal.loop-constraint-preserved
loop-constraint-preserved c =
    let i = c.first_path.result in
    let j = c.second_path.result in
    let x = c.index_mut.result.now in
    let y = c.index_mut-in-loop-constraint.result.now in
    let counts = c.loop-constraint.degrees.items in
    let rs = c.as_slice-constraint-items.result.now in
    let k = c.loop-constraint.constraint-index in
    let valid = here c.args.instance.now rs k c.requires c.as_slice-constraint-items.ensures c.loop-constraint-test.true in
    let whole : length counts ≡ length c.args.instance.now.paths = c.loop-constraint.invariant.whole in
    let more : (path : ℕ) → degree_so_far rs (k + 1) path ≡ degree_so_far rs k path + cond (eqb i path || eqb j path) 1 0 =
    λ path. rw (c.first_path.ensures, c.second_path.ensures) (degree_more rs k no_record path c.loop-constraint-test.true) in
    record {
      whole = length-set (set counts i (x + 1)) j (y + 1) ∙ (length-set counts i (x + 1) ∙ whole);
      counted = λ path inside.
          two_more counts i j x y path (λ e. valid.different (sym c.first_path.ensures ∙ (e ∙ c.second_path.ensures)))
          (omega (arith, c.first_path.ensures, valid.first)) (omega (arith, c.second_path.ensures, valid.second)) c.index_mut.ensures.value c.index_mut-in-loop-constraint.ensures.value (omega arith)
          ∙ (ap (λ n. n + cond (eqb i path || eqb j path) 1 0) (c.loop-constraint.invariant.counted path inside) ∙ sym (more path));
    }

pub returns : goal.returns
returns c =
    let records = c.as_slice-constraint-items.result.now in
    let all = take_all c.loop-constraint.constraint-index records c.loop-constraint-test.false in
    fill_by_all (degree c.args.instance.now) c.loop-constraint.degrees.items (length c.args.instance.now.paths) 0 c.loop-constraint.invariant.whole
    (λ path inside. c.loop-constraint.invariant.counted path inside ∙ ap (count_by (names_path path)) (all ∙ c.as_slice-constraint-items.ensures))
