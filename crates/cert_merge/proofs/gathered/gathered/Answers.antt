use Rattle.std.proofs.Common.{◌≡◌, ◌<◌, List, ◌++◌, length, drop, All, ap, sym, ◌∙◌, subst, arith}
use Rattle.std.specs.List.Sorted.{IsPermutation}
use Rattle.std.proofs.lemmas.List.{length-map, take_at}
use Rattle.search_log.specs.LogStates.{LogState}
use Rattle.search_log.specs.declared.piece.Piece.{Piece}
use Rattle.search_log.specs.GoodLogs.{all_lines}
use Rattle.merge_laws.specs.Pieces.{emit_pieces}
use Rattle.cert_merge.specs.Growth.{AreLeft, HasRoomFor}
use Rattle.cert_merge.proofs.Gatherings.{gathered-is, left-at-start, pieces-within}
use Rattle.cert_merge.proofs.gathered.gathered.Goals as goal

pub write_pieces-requires-clause-within : goal.write_pieces-requires-clause-within
write_pieces-requires-clause-within c =
    let logs = c.args.logs.items in
    let sorted = c.sort_by_row.new.pieces in
    let whole = take_at sorted (drop (length sorted) c.in_ok-rests.field-0.pieces.items) c.in_ok-rests.field-0.pieces.len (omega (arith, c.sort_by_row.auto.pieces, ap length c.deref_mut.ensures.value, c.in_ok-rests.field-0.pieces.ok.0)) in
    let fits = subst (λ (ps : List Piece). All (λ p. p.row < c.room_for-room.result) ps) (c.deref.ensures.value ∙ whole) c.room_for-room.ensures.pieces in
    let same = subst (λ xs. IsPermutation xs sorted) (c.deref_mut.ensures.value ∙ c.in_ok-rests.ensures.pieces) c.sort_by_row.ensures.same in
    let many : c.len.result ≡ length logs = omega (arith, c.len.ensures, c.in_ok-rests.field-0.rests.ok.0, ap length c.in_ok-rests.ensures.rests, length-map logs (λ (l : LogState). l.lines)) in
    subst (All (HasRoomFor c.in_ok-merged.merged)) (sym (c.deref-2.ensures.value ∙ whole))
    (pieces-within logs sorted (c.args.old.now ++ c.args.arcs.now) c.args.placed.now c.len.result c.room_for-room.result c.in_ok-merged.merged same fits many c.in_ok-merged.ensures)

pub returns : goal.returns
returns c =
    let logs = c.args.logs.items in
    let lines = all_lines logs in
    let sorted = c.sort_by_row.new.pieces in
    let rests = c.write_pieces.new.rests in
    let whole = take_at sorted (drop (length sorted) c.in_ok-rests.field-0.pieces.items) c.in_ok-rests.field-0.pieces.len (omega (arith, c.sort_by_row.auto.pieces, ap length c.deref_mut.ensures.value, c.in_ok-rests.field-0.pieces.ok.0)) in
    let fits = subst (λ (ps : List Piece). All (λ p. p.row < c.room_for-room.result) ps) (c.deref.ensures.value ∙ whole) c.room_for-room.ensures.pieces in
    let same = subst (λ xs. IsPermutation xs sorted) (c.deref_mut.ensures.value ∙ c.in_ok-rests.ensures.pieces) c.sort_by_row.ensures.same in
    let many : c.len.result ≡ length logs = omega (arith, c.len.ensures, c.in_ok-rests.field-0.rests.ok.0, ap length c.in_ok-rests.ensures.rests, length-map logs (λ (l : LogState). l.lines)) in
    let start_left : AreLeft lines c.in_ok-merged.merged c.deref_mut-2.result.now =
    subst (AreLeft lines c.in_ok-merged.merged) (sym (c.deref_mut-2.ensures.value ∙ c.in_ok-rests.ensures.rests)) (left-at-start lines (c.args.old.now ++ c.args.arcs.now) c.args.placed.now c.len.result c.room_for-room.result c.in_ok-merged.merged c.in_ok-merged.ensures) in
    let left = take_at rests (drop (length rests) c.in_ok-rests.field-0.rests.items) c.in_ok-rests.field-0.rests.len (omega (arith, c.write_pieces.auto.rests, ap length c.deref_mut-2.ensures.value, c.in_ok-rests.field-0.rests.ok.0)) in
    let rest_left : AreLeft lines c.write_pieces.new.self c.deref_mut-3.result.now =
    subst (AreLeft lines c.write_pieces.new.self) (sym (c.deref_mut-3.ensures.value ∙ left)) (c.in_ok-write_pieces.ensures.left lines start_left) in
    gathered-is c.args.old.now c.args.placed.now c.args.arcs.now logs sorted c.len.result c.room_for-room.result c.in_ok-merged.merged c.write_pieces.new.self c.write_rests.new.self
    (record { same = same; ordered = c.sort_by_row.ensures.ordered }) fits c.room_for-room.ensures.placed many c.in_ok-merged.ensures
    (c.in_ok-write_pieces.ensures.writes lines start_left ∙ ap (λ ps. emit_pieces lines ps c.in_ok-merged.merged) (c.deref-2.ensures.value ∙ whole))
    (c.in_ok-write_rests.ensures lines rest_left)
