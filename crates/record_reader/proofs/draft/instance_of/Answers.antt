use Rattle.std.proofs.Common.{All, sym, subst, take}
use Rattle.record_reader.specs.declared.entry.Pending.TheVariants as links
use Rattle.record_reader.specs.Instances.{paths_of}
use Rattle.record_reader.specs.Validity.{IsPathEntry}
use Rattle.record_reader.proofs.LinkLists.{path_entry_at}
use Rattle.record_reader.proofs.Drafts.{draft_more}
use Rattle.record_reader.proofs.draft.instance_of.Goals.{in-Path+in_ok-add_path-in-Path, in-Constraint+in_ok-add_record-in-Constraint}
use Rattle.record_reader.proofs.draft.instance_of.Goals as goal

pub add_path-requires-clause-entry : goal.add_path-requires-clause-entry
add_path-requires-clause-entry c =
    let entries = subst (λ links. All IsPathEntry (paths_of links)) (sym c.as_slice-link-items.ensures) c.requires.links.paths in
    path_entry_at IsPathEntry c.as_slice-link-items.result.now c.loop-link.link-index _ c.in-Path.entry c.loop-link-test.true c.in-Path.is entries

pub loop-link-preserved : goal.loop-link-preserved
loop-link-preserved c =
    let reader = c.args.reader.now in
    let i = c.loop-link.link-index in
    let same = c.as_slice-link-items.ensures in
    let lt = rw same at c.loop-link-test.true in
    elim c.match-link.branch [
      | in-Path+in_ok-add_path-in-Path w ↦
          rw w.draft-is (draft_more reader i _ (links.Path w.in-Path.entry) w.add_path.new.self _ lt (rw same at w.in-Path.is) (w.in_ok-add_path-in-Path.ensures (take i reader.links) c.loop-link.invariant.0) c.loop-link.invariant.1)
      | in-Constraint+in_ok-add_record-in-Constraint w ↦
          rw w.draft-is (draft_more reader i _ (links.Constraint w.in-Constraint.entry) w.add_record.new.self _ lt (rw same at w.in-Constraint.is) (w.in_ok-add_record-in-Constraint.ensures (take i reader.links) c.loop-link.invariant.0) c.loop-link.invariant.1)
    ]
