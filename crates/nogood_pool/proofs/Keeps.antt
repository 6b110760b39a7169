-- Each step on the pool keeps the rule.
use Rattle.std.proofs.Common.{◌≡◌, ◌≢◌, ◌⊎◌, inl, inr, ⊎_elim, ℕ, suc, ◌+◌, ◌*◌, ◌<◌, ◌≤◌, eqb, eq-eqb, ne_eqb, false, List, [], ◌∷◌, ◌++◌, get_or, set, length, map, sym, refl, ap, ◌∙◌, subst, arith, le_refl, length-set, get_or-set_same}
use Rattle.seat_laws.specs.declared.TheConstants.{WHOLE_SHARE}
use Rattle.std.proofs.lemmas.List.{set-get_or, length-map}
use mathlib.Core.Logic.{dite}
use mathlib.Core.Option.{none, some}
use native.Mathlib.Decide.{ℕ_discrete, dec_le}
use prog.Atomic.{either}
use lib.ListN.{get_elem?}
use Rattle.std.specs.List.{All, Contains}
use Rattle.std.proofs.Common.{Option, Some, None, IfSome}
use Rattle.std.proofs.lemmas.List.Elements.{All-nil, All-cons, All-append, All-contains, All-weaker, All-push, Contains-push, Contains-append_left}
use Rattle.std.proofs.lemmas.List.Sums.{sum_by_push}
use Rattle.nogood_pool.specs.declared.view.RowInWriting.{RowInWriting}
use Rattle.atomic_table.specs.Table.{step, keeps, stepped, Allows}
use Rattle.fapp_model.specs.declared.instance.Instance.{Instance}
use Rattle.nogood.specs.declared.row.Row.{Row}
use Rattle.nogood_pool.specs.declared.view.Content.{Content}
use Rattle.nogood_pool.specs.declared.view.HeldRow.{HeldRow}
use Rattle.nogood_pool.specs.declared.view.PoolView.{PoolView}
use Rattle.nogood_pool.specs.Pool.{Words, IsPool, IsHeld, IsRowInWriting, IsPoolRow, AreShort, FitsPool, Live, cell, counter_of, times, below, written, once, held_row, content_of_row, pool_word_at, literal_word}
use Rattle.nogood_pool.specs.PoolSteps.{Mine, Counts, Draws, Stores, StoresTag, LoadsTag, ReadsTag, ReadsLiteral, IsOnlyContent, after_count, after_draw, after_miss, writing_at, after_publish, after_read}
use Rattle.nogood_pool.proofs.Cells.{cell_here, cell_else, cell_counter, counter_else, once_same, Beside, helds_kept, fits_kept, times_live, past, one_more, not_below, below_most}
use Rattle.nogood_pool.proofs.Views.{kept, alone}
use Rattle.nogood_pool.proofs.Contents.{one_content}
use Rattle.seat_laws.proofs.Sums.{one_within, two_within}

pub live_me : (s : Words) (id : ℕ) (v : PoolView) → v.spent ≡ false → get_elem? s.views id ≡ some v → Live s.views id v
live_me s id v un at = record { there = at; unspent = un }

-- what is in rows that were drawn is below the counter
behind : (instance : Instance) (ws : List ℕ) (hs : List HeldRow) → All (IsHeld instance ws) hs → All (λ h. h.row < counter_of ws) hs
behind instance ws hs all = All-weaker (IsHeld instance ws) (λ h. h.row < counter_of ws) (λ h is. is.drawn) hs all

-- a step that changes no word and nothing of what is written or published
pub looked : (rows : ℕ) (instance : Instance) (s : Words) (b : IsPool rows instance s) (id : ℕ) (v w : PoolView) → Live s.views id v → w.spent ≡ false → w.share ≡ v.share
    → FitsPool rows instance s.words w → v.counter ≤ w.counter → w.writing ≡ v.writing → w.published ≡ v.published
    → (i : ℕ) → IsPool rows instance (stepped s i (get_or s.words i 0) id [] w keeps)
looked rows instance s b id v w l un sh fits up wr pub' i =
    let times_same : (q : ℕ) → times q w ≡ times q v = λ q. rw (un, l.unspent, wr, pub') in
    subst (λ (ws : List ℕ). IsPool rows instance (record { words = ws; homes = s.homes; views = set s.views id w })) (sym (set-get_or s.words i 0))
    (kept rows instance s b s.homes id v w s.words l un sh refl b.counter fits (λ j u ne lu. b.fits j u lu) (inr (refl, up))
    (λ q. let t = times_same q in omega arith) b.fresh (λ q lt tagged. inl tagged) (λ h c. subst (λ (hs : List HeldRow). Contains hs h) (sym pub') c))

pub counts : (rows : ℕ) (instance : Instance) (slots id : ℕ) (me : Mine) → me.0.spent ≡ false → Allows (IsPool rows instance) slots id me 0 (λ n. n) (Counts (step slots 0 0 0 none) me)
counts rows instance slots id me un s b _ at _ =
    let n : ℕ = counter_of s.words in
    let v : PoolView = me.0 in
    let l : Live s.views id v = live_me s id v un at in
    let f : FitsPool rows instance s.words v = b.fits id v l in
    let w : PoolView = after_count v n in
    let fits : FitsPool rows instance s.words w = record { instance_is = f.instance_is; rows_are = f.rows_are; counter = le_refl n; writing = f.writing; published = f.published; seen = f.seen } in (
      w,
      keeps,
      tt,
      looked rows instance s b id v w l refl refl fits f.counter refl refl 0,
      (
        refl,
        refl,
        subst (λ (r : ℕ). n ≤ r) (sym f.rows_are) b.counter,
        record { counter = f.counter; published = behind instance s.words v.published f.published; seen = behind instance s.words v.seen f.seen },
        λ all. let o = b.reached in let same = alone rows instance s b id v l all o.0 o.1 o.2 in sym (ap (λ (u : PoolView). u.counter) same ∙ o.3),
      ),
    )

-- what a seat with the whole share knows of the counter
whole_counter : (rows : ℕ) (instance : Instance) (s : Words) (b : IsPool rows instance s) (id : ℕ) (v : PoolView) → Live s.views id v → v.share ≡ WHOLE_SHARE → counter_of s.words ≡ v.counter
whole_counter rows instance s b id v l all = let o = b.reached in let same = alone rows instance s b id v l all o.0 o.1 o.2 in sym (ap (λ (u : PoolView). u.counter) same ∙ o.3)

drawn_kept : (rows : ℕ) (instance : Instance) (s : Words) (b : IsPool rows instance s) (id : ℕ) (v : PoolView) (next : ℕ) (c : Content)
    → Live s.views id v → v.writing ≡ None → counter_of s.words ≡ next → next < rows → IsPoolRow instance c → AreShort c.lits
    → IsPool rows instance (record { words = set s.words 0 (next + 1); homes = s.homes; views = set s.views id (after_draw v next c) })
drawn_kept rows instance s b id v next c l idle e lt valid short =
    let w : PoolView = after_draw v next c in
    let ws : List ℕ = set s.words 0 (next + 1) in
    let width = b.width in
    let is : counter_of ws ≡ next + 1 = get_or-set_same s.words 0 (next + 1) 0 (omega arith) in
    let same : (q k : ℕ) → cell ws q k ≡ cell s.words q k = λ q k. cell_counter s.words (next + 1) q k in
    let beside : Beside s.words ws next = record { counter = omega arith; cells = λ q k _ _. same q k } in
    let zero_word : (k : ℕ) → k < 9 → cell s.words next k ≡ 0 = λ k h. b.fresh next k (omega arith) lt h in
    let f : FitsPool rows instance s.words v = b.fits id v l in
    let nobody : (j : ℕ) (u : PoolView) → Live s.views j u → written next u.writing ≡ 0 = λ j u lu.
    let o = one_within (times next) s.views j u lu.there in let t = times_live next u lu.unspent in let all = b.owners next in let none = not_below next (counter_of s.words) (omega arith) in omega arith in
    let fits : FitsPool rows instance ws w = record {
      instance_is = f.instance_is;
      rows_are = f.rows_are;
      counter = omega arith;
      writing = record {
        drawn = omega arith;
        short = short;
        within = omega arith;
        tag = same next 0 ∙ zero_word 0 (omega arith);
        done = λ k h. absurd (omega arith);
        left = λ k le h. same next (1 + k) ∙ zero_word (1 + k) (omega arith);
        valid = valid;
      };
      published = helds_kept instance s.words ws next beside (zero_word 0 (omega arith)) v.published f.published;
      seen = helds_kept instance s.words ws next beside (zero_word 0 (omega arith)) v.seen f.seen;
    } in
    kept rows instance s b s.homes id v w ws l refl refl (length-set s.words 0 (next + 1)) (omega arith) fits
    (λ j u ne lu. fits_kept instance s.words ws next beside rows u (zero_word 0 (omega arith)) (nobody j u lu) (b.fits j u lu))
    (inl (sym is))
    (λ q. let tw = times_live q w refl in let tv = times_live q v l.unspent in let none : written q v.writing ≡ 0 = rw idle in let more = one_more q (counter_of s.words) next e in
    let moved : below q (counter_of ws) ≡ below q (next + 1) = ap (λ (m : ℕ). below q m) is in omega arith)
    (λ q k le h small. same q k ∙ b.fresh q k (omega arith) h small)
    (λ q h tagged. inl (λ z. tagged (same q 0 ∙ z)))
    (λ h k. k)

pub draws : (rows : ℕ) (instance : Instance) (slots id : ℕ) (me : Mine) (next : ℕ) (said : Row) → me.0.spent ≡ false → me.0.writing ≡ None → next < rows → IsPoolRow instance (content_of_row said) → AreShort (content_of_row said).lits
    → Allows (IsPool rows instance) slots id me 0 (λ n. either (eqb n next) (next + 1) n) (Draws (step slots 0 next (next + 1) (some said)) me)
draws rows instance slots id me next said un idle lt valid short s b _ at _ =
    let n : ℕ = counter_of s.words in
    let v : PoolView = me.0 in
    let l : Live s.views id v = live_me s id v un at in
    let c : Content = content_of_row said in
    let hit_view : PoolView = after_draw v next c in
    let miss_view : PoolView = after_miss v next n in
    let f : FitsPool rows instance s.words v = b.fits id v l in
    let few : n ≤ v.rows = subst (λ (r : ℕ). n ≤ r) (sym f.rows_are) b.counter in
    let miss_fits : FitsPool rows instance s.words miss_view = record { instance_is = f.instance_is; rows_are = f.rows_are; counter = le_refl n; writing = f.writing; published = f.published; seen = f.seen } in
    dite (ℕ_discrete n next)
    (λ e. (
      hit_view,
      keeps,
      tt,
      subst (λ x. IsPool rows instance (stepped s 0 (either x (next + 1) n) id [] hit_view keeps)) (sym (eq-eqb n next e)) (drawn_kept rows instance s b id v next c l idle e lt valid short),
      ((λ _. refl), (λ ne. absurd (ne e)), refl, f.counter, few, λ all. whole_counter rows instance s b id v l all),
    ))
    (λ ne. (
      miss_view,
      keeps,
      tt,
      subst (λ x. IsPool rows instance (stepped s 0 (either x (next + 1) n) id [] miss_view keeps)) (sym (ne_eqb n next ne)) (looked rows instance s b id v miss_view l refl refl miss_fits f.counter refl refl 0),
      ((λ e. absurd (ne e)), (λ _. refl), refl, f.counter, few, λ all. whole_counter rows instance s b id v l all),
    ))

some_is : (a b : RowInWriting) → Some a ≡ Some b → a ≡ b
some_is a b e = cc

-- what the view says of its row in writing
row_in_writing : (instance : Instance) (ws : List ℕ) (v : PoolView) (w : RowInWriting) → v.writing ≡ Some w → IfSome v.writing (IsRowInWriting instance ws) → IsRowInWriting instance ws w
row_in_writing instance ws v w e h = subst (λ (o : Option RowInWriting). IfSome o (IsRowInWriting instance ws)) e h

-- no other seat writes the row that this one writes
only_writer : (rows : ℕ) (instance : Instance) (s : Words) (b : IsPool rows instance s) (id : ℕ) (v : PoolView) (w : RowInWriting) → Live s.views id v → v.writing ≡ Some w → (j : ℕ) (u : PoolView) → j ≢ id → Live s.views j u → written w.row u.writing ≡ 0
only_writer rows instance s b id v w l e j u ne lu =
    let r : ℕ = w.row in
    let two = two_within (times r) s.views id j v u (λ k. ne (sym k)) l.there lu.there in
    let all = b.owners r in
    let one = below_most r (counter_of s.words) in
    let tv = times_live r v l.unspent in
    let tu = times_live r u lu.unspent in
    let mine : written r v.writing ≡ 1 = rw e (once_same r r refl) in
    omega arith

stored_kept : (rows : ℕ) (instance : Instance) (s : Words) (b : IsPool rows instance s) (id : ℕ) (v : PoolView) (w : RowInWriting)
    → Live s.views id v → v.writing ≡ Some w → w.stored < length w.content.lits
    → IsPool rows instance (record { words = set s.words (1 + 9 * w.row + (1 + w.stored)) (pool_word_at w.content.lits w.stored); homes = s.homes; views = set s.views id (writing_at v w.row w.content (w.stored + 1)) })
stored_kept rows instance s b id v w l e lt =
    let r : ℕ = w.row in
    let k : ℕ = w.stored in
    let n : ℕ = pool_word_at w.content.lits k in
    let ws : List ℕ = set s.words (1 + 9 * r + (1 + k)) n in
    let v' : PoolView = writing_at v r w.content (k + 1) in
    let f : FitsPool rows instance s.words v = b.fits id v l in
    let is : IsRowInWriting instance s.words w = row_in_writing instance s.words v w e f.writing in
    let short = is.short in
    let after_draw' = is.drawn in
    let width = b.width in
    let most = b.counter in
    let counter : counter_of ws ≡ counter_of s.words = counter_else s.words r (1 + k) n in
    let other : (q j : ℕ) → j < 9 → (q ≡ r → j ≡ 1 + k → ⊥) → cell ws q j ≡ cell s.words q j = λ q j h apart. cell_else s.words r (1 + k) n q j (omega arith) h apart in
    let tags : (q : ℕ) → cell ws q 0 ≡ cell s.words q 0 = λ q. other q 0 (omega arith) (λ _ z. absurd (omega arith)) in
    let beside : Beside s.words ws r = record { counter = omega arith; cells = λ q j h ne. other q j h (λ same _. ne same) } in
    let fits : FitsPool rows instance ws v' = record {
      instance_is = f.instance_is;
      rows_are = f.rows_are;
      counter = let c = f.counter in omega arith;
      writing = record {
        drawn = omega arith;
        short = short;
        within = omega arith;
        tag = tags r ∙ is.tag;
        done = λ j h. dite (ℕ_discrete j k)
            (λ same. subst (λ (i : ℕ). cell ws r (1 + i) ≡ pool_word_at w.content.lits i) (sym same) (cell_here s.words r (1 + k) n (omega arith)))
            (λ ne. other r (1 + j) (omega arith) (λ _ z. ne (omega arith)) ∙ is.done j (omega arith));
        left = λ j le h. other r (1 + j) (omega arith) (λ _ z. absurd (omega arith)) ∙ is.left j (omega arith) h;
        valid = is.valid;
      };
      published = helds_kept instance s.words ws r beside is.tag v.published f.published;
      seen = helds_kept instance s.words ws r beside is.tag v.seen f.seen;
    } in
    kept rows instance s b s.homes id v v' ws l refl refl (length-set s.words (1 + 9 * r + (1 + k)) n) (omega arith) fits
    (λ j u ne lu. fits_kept instance s.words ws r beside rows u is.tag (only_writer rows instance s b id v w l e j u ne lu) (b.fits j u lu))
    (inr (counter, le_refl v.counter))
    (λ q. let tw = times_live q v' refl in let tv = times_live q v l.unspent in let mine : written q v.writing ≡ once q r = rw e refl in let same : below q (counter_of ws) ≡ below q (counter_of s.words) = ap (λ (m : ℕ). below q m) counter in omega arith)
    (λ q j le h small. other q j small (λ same _. absurd (omega arith)) ∙ b.fresh q j (omega arith) h small)
    (λ q h tagged. inl (λ z. tagged (tags q ∙ z)))
    (λ h c. c)

finished_kept : (rows : ℕ) (instance : Instance) (s : Words) (b : IsPool rows instance s) (id : ℕ) (v : PoolView) (w : RowInWriting)
    → Live s.views id v → v.writing ≡ Some w → w.stored ≡ length w.content.lits
    → IsPool rows instance (record { words = set s.words (1 + 9 * w.row + 0) w.content.tag; homes = s.homes; views = set s.views id (after_publish v w.row w.content) })
finished_kept rows instance s b id v w l e full =
    let r : ℕ = w.row in
    let n : ℕ = w.content.tag in
    let ws : List ℕ = set s.words (1 + 9 * r + 0) n in
    let v' : PoolView = after_publish v r w.content in
    let f : FitsPool rows instance s.words v = b.fits id v l in
    let is : IsRowInWriting instance s.words w = row_in_writing instance s.words v w e f.writing in
    let short = is.short in
    let after_draw' = is.drawn in
    let width = b.width in
    let most = b.counter in
    let counter : counter_of ws ≡ counter_of s.words = counter_else s.words r 0 n in
    let other : (q j : ℕ) → j < 9 → (q ≡ r → j ≡ 0 → ⊥) → cell ws q j ≡ cell s.words q j = λ q j h apart. cell_else s.words r 0 n q j (omega arith) h apart in
    let beside : Beside s.words ws r = record { counter = omega arith; cells = λ q j h ne. other q j h (λ same _. ne same) } in
    let here : IsHeld instance ws (held_row r w.content) = record {
      drawn = omega arith;
      short = short;
      tag = cell_here s.words r 0 n (omega arith);
      lits = λ k h. other r (1 + k) (omega arith) (λ _ z. absurd (omega arith)) ∙ dite (dec_le (suc k) w.stored)
          (λ le. is.done k (omega arith))
          (λ more. is.left k (omega arith) h ∙ sym (past (map literal_word w.content.lits) k (omega (arith, length-map w.content.lits literal_word))));
      valid = is.valid;
    } in
    let fits : FitsPool rows instance ws v' = record {
      instance_is = f.instance_is;
      rows_are = f.rows_are;
      counter = let c = f.counter in omega arith;
      writing = tt;
      published = All-push (IsHeld instance ws) v.published (held_row r w.content) (helds_kept instance s.words ws r beside is.tag v.published f.published) here;
      seen = helds_kept instance s.words ws r beside is.tag v.seen f.seen;
    } in
    kept rows instance s b s.homes id v v' ws l refl refl (length-set s.words (1 + 9 * r + 0) n) (omega arith) fits
    (λ j u ne lu. fits_kept instance s.words ws r beside rows u is.tag (only_writer rows instance s b id v w l e j u ne lu) (b.fits j u lu))
    (inr (counter, le_refl v.counter))
    (λ q. let tw = times_live q v' refl in let tv = times_live q v l.unspent in let mine : written q v.writing ≡ once q r = rw e refl in let push = sum_by_push (λ (h : HeldRow). once q h.row) v.published (held_row r w.content) in
    let same : below q (counter_of ws) ≡ below q (counter_of s.words) = ap (λ (m : ℕ). below q m) counter in omega arith)
    (λ q j le h small. other q j small (λ same _. absurd (omega arith)) ∙ b.fresh q j (omega arith) h small)
    (λ q h tagged. dite (ℕ_discrete q r)
    (λ same. inr (w.content, subst (λ (i : ℕ). Contains (v.published ++ held_row r w.content ∷ []) (held_row i w.content)) (sym same) (Contains-push v.published (held_row r w.content))))
    (λ ne. inl (λ z. tagged (other q 0 (omega arith) (λ same _. ne same) ∙ z))))
    (λ h c. Contains-append_left v.published (held_row r w.content ∷ []) h c)

pub stores : (rows : ℕ) (instance : Instance) (slots id : ℕ) (me : Mine) (w : RowInWriting) (word n : ℕ) → me.0.spent ≡ false → me.0.writing ≡ Some w → w.stored < length w.content.lits
    → word ≡ 1 + 9 * w.row + (1 + w.stored) → n ≡ pool_word_at w.content.lits w.stored
    → Allows (IsPool rows instance) slots id me word (λ _. n) (λ _. Stores (step slots word n 0 none) me n)
stores rows instance slots id me w word n un e lt at_word is_n s b _ at _ =
    let v : PoolView = me.0 in
    let l : Live s.views id v = live_me s id v un at in
    let v' : PoolView = writing_at v w.row w.content (w.stored + 1) in (
      v',
      keeps,
      tt,
      subst (λ (i : ℕ). IsPool rows instance (record { words = set s.words i n; homes = s.homes; views = set s.views id v' })) (sym at_word)
          (subst (λ (m : ℕ). IsPool rows instance (record { words = set s.words (1 + 9 * w.row + (1 + w.stored)) m; homes = s.homes; views = set s.views id v' })) (sym is_n) (stored_kept rows instance s b id v w l e lt)),
      (refl, λ x ex. let same : w ≡ x = some_is w x (sym e ∙ ex) in (at_word ∙ ap (λ (y : RowInWriting). 1 + 9 * y.row + (1 + y.stored)) same, ap (λ (y : RowInWriting). writing_at v y.row y.content (y.stored + 1)) same)),
    )

pub publishes : (rows : ℕ) (instance : Instance) (slots id : ℕ) (me : Mine) (w : RowInWriting) (word n : ℕ) → me.0.spent ≡ false → me.0.writing ≡ Some w → w.stored ≡ length w.content.lits
    → word ≡ 1 + 9 * w.row → n ≡ w.content.tag
    → Allows (IsPool rows instance) slots id me word (λ _. n) (λ _. StoresTag (step slots word n 0 none) me n)
publishes rows instance slots id me w word n un e full at_word is_n s b _ at _ =
    let v : PoolView = me.0 in
    let l : Live s.views id v = live_me s id v un at in
    let v' : PoolView = after_publish v w.row w.content in
    let at' : 1 + 9 * w.row + 0 ≡ word = omega arith in (
      v',
      keeps,
      tt,
      subst (λ (i : ℕ). IsPool rows instance (record { words = set s.words i n; homes = s.homes; views = set s.views id v' })) at'
          (subst (λ (m : ℕ). IsPool rows instance (record { words = set s.words (1 + 9 * w.row + 0) m; homes = s.homes; views = set s.views id v' })) (sym is_n) (finished_kept rows instance s b id v w l e full)),
      (refl, λ x ex. let same : w ≡ x = some_is w x (sym e ∙ ex) in (at_word ∙ ap (λ (y : RowInWriting). 1 + 9 * y.row) same, ap (λ (y : RowInWriting). after_publish v y.row y.content) same)),
    )

-- the tag word of a row is read
tag_read : (rows : ℕ) (instance : Instance) (s : Words) (b : IsPool rows instance s) (id : ℕ) (me : Mine) (row : ℕ) → Live s.views id me.0 → row < rows → (i : ℕ)
    → (w : PoolView) × IsPool rows instance (stepped s i (get_or s.words i 0) id [] w keeps) × ReadsTag me.0 row (cell s.words row 0) w
tag_read rows instance s b id me row l lt i =
    let n : ℕ = cell s.words row 0 in
    let v : PoolView = me.0 in
    let f : FitsPool rows instance s.words v = b.fits id v l in
    let after : List HeldRow → PoolView = λ more. after_read v row n more in
    let fits : (more : List HeldRow) → All (IsHeld instance s.words) more → FitsPool rows instance s.words (after more) = λ more all.
    record { instance_is = f.instance_is; rows_are = f.rows_are; counter = f.counter; writing = f.writing; published = f.published; seen = All-append (IsHeld instance s.words) v.seen more f.seen all } in
    let keep : (more : List HeldRow) → All (IsHeld instance s.words) more → IsPool rows instance (stepped s i (get_or s.words i 0) id [] (after more) keeps) = λ more all.
    looked rows instance s b id v (after more) l refl refl (fits more all) (le_refl v.counter) refl refl i in
    let known : (d : Content) → Contains v.published (held_row row d) ⊎ Contains v.seen (held_row row d) → IsHeld instance s.words (held_row row d) = λ d has.
    ⊎_elim (λ p. All-contains (IsHeld instance s.words) v.published (held_row row d) f.published p) (λ p. All-contains (IsHeld instance s.words) v.seen (held_row row d) f.seen p) has in
    let only_one : (c : Content) → IsHeld instance s.words (held_row row c) → IsOnlyContent v row c = λ c is d has. ap (λ (h : HeldRow). h.content) (one_content instance s.words (held_row row c) d is (known d has)) in
    dite (ℕ_discrete n 0)
    (λ z. (
      after [],
      keep [] (All-nil (IsHeld instance s.words)),
      inl (
        z,
        refl,
        λ c has.
            let is : IsHeld instance s.words (held_row row c) = ⊎_elim (λ p. All-contains (IsHeld instance s.words) v.published (held_row row c) f.published p) (λ p. All-contains (IsHeld instance s.words) v.seen (held_row row c) f.seen p) has in
            let above = is.valid.above in let tag : n ≡ c.tag = is.tag in absurd (omega arith),
      ),
    ))
    (λ tagged. let o = b.owned row lt tagged in let c : Content = o.3 in
    let is : IsHeld instance s.words (held_row row c) = All-contains (IsHeld instance s.words) o.1.published (held_row row c) (b.fits o.0 o.1 o.2).published o.4 in (
      after (held_row row c ∷ []),
      keep (held_row row c ∷ []) (All-cons (IsHeld instance s.words) (held_row row c) [] is (All-nil (IsHeld instance s.words))),
      inr (c, is.tag, subst (λ (x : Instance). IsPoolRow x c) (sym f.instance_is) is.valid, is.short, only_one c is, refl),
    ))

pub reads : (rows : ℕ) (instance : Instance) (slots id : ℕ) (me : Mine) (row word : ℕ) → me.0.spent ≡ false → row < rows → word ≡ 1 + 9 * row
    → Allows (IsPool rows instance) slots id me word (λ n. n) (LoadsTag (step slots word 0 0 none) me)
reads rows instance slots id me row word un lt at_word s b _ at _ =
    let l : Live s.views id me.0 = live_me s id me.0 un at in
    let is : cell s.words row 0 ≡ get_or s.words word 0 = ap (λ (i : ℕ). get_or s.words i 0) (let e : 1 + 9 * row + 0 ≡ word = omega arith in e) in
    let t = tag_read rows instance s b id me row l lt word in (
      t.0,
      keeps,
      tt,
      t.1,
      (
        refl,
        λ r e. let same : row ≡ r = omega arith in
            subst (λ (q : ℕ). ReadsTag me.0 q (get_or s.words word 0) t.0) same (subst (λ (n : ℕ). ReadsTag me.0 row n t.0) is t.2),
      ),
    )

pub reads_literal : (rows : ℕ) (instance : Instance) (slots id : ℕ) (me : Mine) (word : ℕ) → me.0.spent ≡ false
    → Allows (IsPool rows instance) slots id me word (λ n. n) (ReadsLiteral (step slots word 0 0 none) me)
reads_literal rows instance slots id me word un s b _ at _ =
    let v : PoolView = me.0 in
    let l : Live s.views id v = live_me s id v un at in
    let f : FitsPool rows instance s.words v = b.fits id v l in (
      v,
      keeps,
      tt,
      looked rows instance s b id v v l un refl f (le_refl v.counter) refl refl word,
      (
        refl,
        λ row k c e h has.
            let is : IsHeld instance s.words (held_row row c) = All-contains (IsHeld instance s.words) v.seen (held_row row c) f.seen has in
            ap (λ (i : ℕ). get_or s.words i 0) e ∙ is.lits k h,
      ),
    )
