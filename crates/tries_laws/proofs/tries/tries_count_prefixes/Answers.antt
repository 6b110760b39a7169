use Rattle.std.proofs.Common.{length, drop, subst}
use Rattle.std.proofs.lemmas.List.Elements.{All-contains}
use Rattle.fapp_model.specs.search.Dead.{Dead}
use Rattle.fapp_model.specs.search.Prefixes.{GoesOn, IsAlong, IsPrefix}
use Rattle.fapp_model.specs.search.WorkOrder.{work_order}
use Rattle.fapp_model.proofs.Members.{All-from_members}
use Rattle.tries_laws.proofs.TriesCounts.{Follows, along-drop, tries-count}
use Rattle.tries_laws.proofs.tries.tries_count_prefixes.Goals as goal

pub returns : goal.returns
returns c = λ instance t prefix tried n is_prefix tries h.
    let rest = drop (length prefix) (work_order instance) in
    tries-count instance (Dead instance t) rest prefix n tried tries (record {
      apart = h.apart;
      follow = All-from_members (Follows instance rest prefix) tried (λ q m.
          let more = All-contains (GoesOn prefix) tried q h.go_on m in
          let along = All-contains (IsPrefix instance) tried q h.prefixes m in
          record {
            more = more.0;
            is = more.1;
            along = along-drop instance (work_order instance) prefix more.0 (subst (IsAlong instance (work_order instance)) more.1 along);
          });
      alive = h.alive;
      closed = h.closed;
    })
