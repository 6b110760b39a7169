-- The root has no fault exactly where a kept line without literals has at least the claimed tag.
use Rattle.std.proofs.Common.{◌≡◌, ℕ, suc, ◌-◌, ◌<◌, ◌≤◌, Bool, true, false, not, List, [], ◌∷◌, length, filter, fold, get_or, refl, ap, sym, subst, ◌∙◌, ⊎_elim, arith, Option, None, Some, All, Contains, ltb, leb, eqb, cond}
use Rattle.std.proofs.lemmas.Bool.{and_from, and_parts, eqb-true, le-leb, leb-true, ltb-false, ltb-true, not_from_false}
use Rattle.std.proofs.lemmas.List.{get_or_default, take_all}
use Rattle.std.proofs.lemmas.List.Elements.{Contains-get_or}
use Rattle.fapp_model.specs.declared.instance.Instance.{Instance}
use Rattle.fapp_model.specs.declared.literal.Literal.{Literal}
use Rattle.fapp_model.specs.declared.tag.Tag.{Tag}
use Rattle.fapp_model.proofs.Members.{at_front, behind, front_or_behind, in-filter, in-map, no_member}
use Rattle.cert_lines.specs.declared.answer.Line.{Line}
use Rattle.cert_lines.specs.declared.answer.Verdict.{Verdict}
use Rattle.cert_lines.specs.declared.reject.RejectCause.TheVariants.{RootTagTooLow}
use Rattle.cert_lines.specs.WellFormed.{IsLine}
use Rattle.cert_lines.specs.acceptance.Deleted.{is_delete, is_deleted, kept}
use Rattle.cert_lines.specs.acceptance.Excluded.{line_at, no_line}
use Rattle.cert_lines.specs.acceptance.RootFaults.{greater, is_root, root_fault, root_fault_by, root_tag, verdict_tag, with_root_line}
use Rattle.cert_lines.specs.Stripping.{stays, stripped, stripped_from, stripped_line}
use Rattle.accept_laws.specs.Compacting.{compacted, compacted_number, compacted_to}
use Rattle.accept_laws.proofs.Compacting.{new_line, one-stays, plain-at, plain-renumbered, stands-at, within}
use Rattle.cert_lines.proofs.Deleting.{IsPlain, all-stay, formed-plain, kept-line, kept-there}
use Rattle.accept_laws.proofs.Options.{cause_unless-none}
use Rattle.accept_laws.proofs.Renumbering.{passes-none}
use Rattle.accept_laws.proofs.Stripping.{front-plain, same-lits, same-tag}

-- ---- a root line that is there

abbrev pub AtLeast : ℕ → Option Tag → Type 0
AtLeast code None = ⊥
AtLeast code (Some u) = code ≤ u.code

pub greater-left : (code : ℕ) (found : Option Tag) (t : Tag) → AtLeast code found → AtLeast code (Some (greater found t))
greater-left code None t h = absurd h
greater-left code (Some u) t h = by_order (ltb u.code t.code) refl
  where
    by_order : (b : Bool) → ltb u.code t.code ≡ b → code ≤ (let w : Tag = cond b t u in w).code
    by_order true e = let l = ltb-true u.code t.code e in omega arith
    by_order false e = h

pub greater-right : (found : Option Tag) (t : Tag) → AtLeast t.code (Some (greater found t))
greater-right None t = omega arith
greater-right (Some u) t = by_order (ltb u.code t.code) refl
  where
    by_order : (b : Bool) → ltb u.code t.code ≡ b → t.code ≤ (let w : Tag = cond b t u in w).code
    by_order true e = omega arith
    by_order false e = ltb-false u.code t.code e

pub keeps-line : (code : ℕ) (found : Option Tag) (line : Line) → AtLeast code found → AtLeast code (with_root_line found line)
keeps-line code found line h = by_root (is_root line)
  where
    by_root : (b : Bool) → AtLeast code (let o : Option Tag = cond b (Some (greater found line.tag)) found in o)
    by_root true = greater-left code found line.tag h
    by_root false = h

pub keeps-all : (code : ℕ) (lines : List Line) (found : Option Tag) → AtLeast code found → AtLeast code (fold with_root_line found lines)
keeps-all code [] found h = h
keeps-all code (line ∷ lines) found h = keeps-all code lines (with_root_line found line) (keeps-line code found line h)

pub found-root : (lines : List Line) (found : Option Tag) (line : Line) → Contains lines line → is_root line ≡ true → AtLeast line.tag.code (fold with_root_line found lines)
found-root [] found line m e = absurd (no_member line m)
found-root (first ∷ lines) found line m e = ⊎_elim
    (λ same. keeps-all line.tag.code lines (with_root_line found first) (subst (λ (x : Line). AtLeast line.tag.code (with_root_line found x)) (sym same) (rw e (greater-right found line.tag))))
    (λ later. found-root lines (with_root_line found first) line later e)
    (front_or_behind first lines line m)

enough : (claimed : Tag) (code : ℕ) (found : Option Tag) → claimed.code ≤ code → AtLeast code found → root_fault_by claimed found ≡ None
enough claimed code None most h = absurd h
enough claimed code (Some u) most h = passes-none (leb claimed.code u.code) (RootTagTooLow claimed u) (le-leb claimed.code u.code (omega arith))

-- a root line of some lines
pub record IsRootOf (lines : List Line) (code : ℕ) : Type 0 where
  pub line : Line
  pub member : Contains lines line
  pub root : is_root line ≡ true
  pub reaches : code ≤ line.tag.code

pub root-enough : (claimed : Tag) (lines : List Line) → IsRootOf lines claimed.code → root_fault_by claimed (root_tag lines) ≡ None
unfolding root_tag
root-enough claimed lines h = enough claimed h.line.tag.code (fold with_root_line None lines) h.reaches (found-root lines None h.line h.member h.root)

-- ---- the other way round

record IsTagIn (all : List Line) (t : Tag) : Type 0 where
  pub line : Line
  pub member : Contains all line
  pub root : is_root line ≡ true
  pub tag : line.tag ≡ t

abbrev AreTags : List Line → Option Tag → Type 0
AreTags all None = Unit {0}
AreTags all (Some t) = IsTagIn all t

module _ (all : List Line) where
  greater-in : (found : Option Tag) (t : Tag) → AreTags all found → IsTagIn all t → IsTagIn all (greater found t)
  greater-in None t h g = g
  greater-in (Some u) t h g = by_order (ltb u.code t.code)
    where
      by_order : (b : Bool) → IsTagIn all (let w : Tag = cond b t u in w)
      by_order true = g
      by_order false = h

  tags-in : (lines : List Line) (found : Option Tag) → ((line : Line) → Contains lines line → Contains all line) → AreTags all found → AreTags all (fold with_root_line found lines)
  tags-in [] found inside h = h
  tags-in (line ∷ lines) found inside h = tags-in lines (with_root_line found line) (λ x m. inside x (behind line lines x m)) (by_root (is_root line) refl)
    where
      by_root : (b : Bool) → is_root line ≡ b → AreTags all (let o : Option Tag = cond b (Some (greater found line.tag)) found in o)
      by_root true e = greater-in found line.tag h (record { line = line; member = inside line (at_front line lines); root = e; tag = refl })
      by_root false e = h

pub root-there : (claimed : Tag) (lines : List Line) → root_fault_by claimed (root_tag lines) ≡ None → IsRootOf lines claimed.code
unfolding root_tag
root-there claimed lines h = by_tag (fold with_root_line None lines) (tags-in lines lines None (λ x m. m) tt) h
  where
    by_tag : (found : Option Tag) → AreTags lines found → root_fault_by claimed found ≡ None → IsRootOf lines claimed.code
    by_tag None t h = absurd (cc)
    by_tag (Some u) t h = record {
      line = t.line;
      member = t.member;
      root = t.root;
      reaches = (let l = leb-true claimed.code u.code (cause_unless-none _ _ h) in let e = ap (λ (t : Tag). t.code) t.tag in omega arith);
    }

-- ---- without the Delete lines, and with them

root-by-lits : (x y : Line) → x.lits ≡ y.lits → is_root x ≡ true → is_root y ≡ true
root-by-lits x y e h = subst (λ (ls : List Literal). eqb (length ls) 0 ≡ true) e h

pub stripped-root : (instance : Instance) (verdict : Verdict) (lines : List Line) → root_fault instance verdict lines ≡ None → root_fault instance verdict (stripped lines) ≡ None
unfolding root_fault stripped
stripped-root instance verdict lines h =
    let r = root-there (verdict_tag instance verdict) (kept lines) h in
    let k = kept-line lines r.line r.member in
    let low = k.low in
    let high = k.high in
    let parts = and_parts (not (is_delete (line_at lines k.n).rule)) (not (is_deleted lines k.n)) k.stays in
    let member : Contains lines r.line = subst (Contains lines) k.is (Contains-get_or lines (k.n - 1) no_line (omega arith)) in
    let there = in-map (stripped_line lines) (filter stays lines) r.line (in-filter stays lines r.line member (subst (λ (x : Line). stays x ≡ true) k.is parts.0)) in
    let plain : All IsPlain (stripped_from lines lines) = subst (λ ls. All IsPlain (stripped_from lines ls)) (take_all (length lines) lines (omega arith)) (front-plain lines (length lines)) in
    root-enough (verdict_tag instance verdict) (kept (stripped_from lines lines)) (record {
      line = stripped_line lines r.line;
      member = subst (λ ls. Contains ls (stripped_line lines r.line)) (sym (all-stay (stripped_from lines lines) plain)) there;
      root = root-by-lits r.line (stripped_line lines r.line) (sym (same-lits lines r.line)) r.root;
      reaches = (let e = same-tag lines r.line in let l = r.reaches in omega arith);
    })

pub compacted-root : (instance : Instance) (verdict : Verdict) (lines : List Line) → All (IsLine instance) lines → root_fault instance verdict lines ≡ None → root_fault instance verdict (compacted lines) ≡ None
unfolding root_fault compacted
compacted-root instance verdict lines formed h =
    let plain = formed-plain instance lines formed in
    let r = root-there (verdict_tag instance verdict) (kept lines) h in
    by_place r (subst (λ ls. Contains ls r.line) (all-stay lines plain) r.member)
  where
    by_place : (r : IsRootOf (kept lines) (verdict_tag instance verdict).code) → Contains lines r.line → root_fault_by (verdict_tag instance verdict) (root_tag (kept (compacted_to lines (length lines)))) ≡ None
    by_place r (i, small, is) =
        let plain = formed-plain instance lines formed in
        let n = length lines in
        let first : suc i - 1 ≡ i = omega arith in
        let at : line_at lines (suc i) ≡ r.line = ap (λ m. get_or lines m no_line) first ∙ (get_or_default lines i no_line r.line small ∙ is) in
        let m = compacted_number lines (suc i) in
        let there : line_at (compacted_to lines n) m ≡ new_line lines (suc i) = stands-at lines n (suc i) (omega arith) (omega arith) in
        let none : length r.line.lits ≡ 0 = eqb-true (length r.line.lits) 0 r.root in
        let few : length (line_at lines (suc i)).lits < 2 = (let e = ap (λ (l : Line). length l.lits) at in omega arith) in
        let kind : is_delete (line_at (compacted_to lines n) m).rule ≡ false =
        subst (λ (l : Line). is_delete l.rule ≡ false) (sym there) (plain-renumbered lines (compacted_number lines) (line_at lines (suc i)).rule (plain-at lines plain i small)) in
        let stay = and_from (not (is_delete (line_at (compacted_to lines n) m).rule)) (not (is_deleted (compacted_to lines n) m))
        (not_from_false (is_delete (line_at (compacted_to lines n) m).rule) kind) (not_from_false (is_deleted (compacted_to lines n) m) (one-stays lines plain n (suc i) (omega arith) few)) in
        root-enough (verdict_tag instance verdict) (kept (compacted_to lines n)) (record {
          line = line_at (compacted_to lines n) m;
          member = kept-there (compacted_to lines n) m (omega arith) (within lines n (suc i) (omega arith) (omega arith)) stay;
          root = root-by-lits r.line (line_at (compacted_to lines n) m) (ap (λ (l : Line). l.lits) (sym at) ∙ ap (λ (l : Line). l.lits) (sym there)) r.root;
          reaches = (let e = ap (λ (l : Line). l.tag.code) at in let f = ap (λ (l : Line). l.tag.code) there in let l = r.reaches in omega arith);
        })
