-- Certificate lines, both ways.
use Rattle.std.proofs.Common.{◌≡◌, ℕ, ◌<◌, true, cond, ◌&&◌, eqb, List, [], ◌∷◌, ◌++◌, length, map, decimal, codes, Option, Some, None, Result, Ok, Err, refl, sym, ap, subst, ◌∙◌, inl, inr, arith}
use Rattle.std.specs.List.{flat_map}
use Rattle.std.specs.Str.{bytes_eq}
use Rattle.std.proofs.lemmas.Bool.{and_parts, eqb-true}
use Rattle.std.proofs.lemmas.List.{append-nil}
use Rattle.fapp_model.specs.declared.instance.Instance.{Instance}
use Rattle.fapp_model.specs.declared.literal.Literal.{Literal}
use Rattle.fapp_model.specs.declared.tag.Tag.{Tag}
use Rattle.fapp_model.specs.Assignments.{count_at}
use Rattle.fapp_model.specs.Instances.{IsNumber, IsInstance}
use Rattle.fapp_model.specs.InstanceTags.{IsTagFor}
use Rattle.fapp_model.specs.search.Partials.{IsLiteral, AreLiterals}
use Rattle.fapp_text.proofs.SignLemmas.{is_word}
use Rattle.cert_lines.specs.declared.answer.Child.{Child}
use Rattle.cert_lines.specs.declared.answer.Line.{Line}
use Rattle.cert_lines.specs.declared.answer.Rule.{Rule}
use Rattle.cert_lines.specs.declared.answer.Rule.TheVariants.{Count, Branch, Delete}
use Rattle.cert_lines.specs.declared.fault.CertCause.{CertCause}
use Rattle.cert_lines.specs.declared.fault.CertCause.TheVariants.{BadKind}
use Rattle.fapp_text.specs.Reading.{◌>>=◌}
use Rattle.cert_lines.specs.Spelling.{literal_numbers, child_numbers, list_numbers, tag_numbers, front_numbers, rule_word, rule_numbers, certificate_fields}
use Rattle.cert_lines.specs.WellFormed.{IsChild, AreCites, AreChildren, IsRule, IsLine, IsDelete, IsLineIn}
use Rattle.cert_lines.specs.FieldReading.{field_at, ended, tag_at}
use Rattle.cert_lines.specs.ListReading.{position_at, literal_at, cite_at, child_at, list_at}
use Rattle.cert_lines.specs.CertificateReading.{count_line, branch_line, delete_line, certificate_line}
use Rattle.cert_lines.proofs.Ascending.{few_items}
use Rattle.fapp_text.proofs.ReadingSteps.{bind_ok, chosen, ok_is}
use Rattle.cert_lines.proofs.FieldLaws.{Takes, split_numbers, takes_both, field_takes, ended_takes, tag_takes, tag_again}
use Rattle.cert_lines.proofs.ListLaws.{path_of, one_number, itself, choice_of, literal_step, cite_step, child_step, few_choices, position_takes, position_again}
use Rattle.cert_lines.proofs.StepLaws.{list_takes, list_again}
use Rattle.cert_lines.proofs.TagLemmas.{same_tag}

ones : (cites : List ℕ) → flat_map one_number cites ≡ cites
ones [] = refl
ones (n ∷ cites) = ap (λ (ns : List ℕ). n ∷ ns) (ones cites)

pub literals_take : (instance : Instance) → IsInstance instance → (fields : List (List ℕ)) (x : List Literal × List (List ℕ)) → list_at (literal_at instance) fields ≡ Ok x → Takes fields (list_numbers x.0) x.1 × AreLiterals instance x.0
literals_take instance valid fields x e =
    let h = list_takes literal_numbers path_of (IsLiteral instance) (literal_at instance) (literal_step instance valid) fields x e in
    (h.text, record { in_range = h.each; ascending = h.up })

pub literals_again : (instance : Instance) → IsInstance instance → (literals : List Literal) (rest : List (List ℕ)) → AreLiterals instance literals → list_at (literal_at instance) (map decimal (list_numbers literals) ++ rest) ≡ Ok (literals, rest)
literals_again instance valid literals rest h =
    let few = few_items path_of (length instance.paths) literals (λ k d l. (h.in_range k d l).path) h.ascending in
    list_again literal_numbers path_of (IsLiteral instance) (literal_at instance) (literal_step instance valid) literals rest (omega (arith, few, valid.few_paths)) h.in_range h.ascending

cites_take : (fields : List (List ℕ)) (x : List ℕ × List (List ℕ)) → list_at cite_at fields ≡ Ok x → Takes fields (length x.0 ∷ x.0) x.1 × AreCites x.0
cites_take fields x e =
    let h = list_takes one_number itself IsNumber cite_at cite_step fields x e in
    (h.text ∙ ap (λ (ns : List ℕ). map decimal (length x.0 ∷ ns) ++ x.1) (ones x.0), record { each = h.each; ascending = h.up; few = h.few })

cites_again : (cites : List ℕ) (rest : List (List ℕ)) → AreCites cites → list_at cite_at (map decimal (length cites ∷ cites) ++ rest) ≡ Ok (cites, rest)
cites_again cites rest h =
    ap (λ (ns : List ℕ). list_at cite_at (map decimal (length cites ∷ ns) ++ rest)) (sym (ones cites))
    ∙ list_again one_number itself IsNumber cite_at cite_step cites rest h.few h.each h.ascending

children_take : (instance : Instance) → IsInstance instance → (path : ℕ) → path < length instance.paths → (fields : List (List ℕ)) (x : List Child × List (List ℕ)) → list_at (child_at instance path) fields ≡ Ok x
    → Takes fields (length x.0 ∷ flat_map child_numbers x.0) x.1 × AreChildren instance path x.0
children_take instance valid path lt fields x e =
    let h = list_takes child_numbers choice_of (IsChild instance path) (child_at instance path) (child_step instance valid path lt) fields x e in
    (h.text, record { each = h.each; ascending = h.up })

children_again : (instance : Instance) → IsInstance instance → (path : ℕ) → path < length instance.paths → (children : List Child) (rest : List (List ℕ)) → AreChildren instance path children
    → list_at (child_at instance path) (map decimal (length children ∷ flat_map child_numbers children) ++ rest) ≡ Ok (children, rest)
children_again instance valid path lt children rest h =
    let few = few_items choice_of (count_at instance path) children (λ k d l. (h.each k d l).choice) h.ascending in
    list_again child_numbers choice_of (IsChild instance path) (child_at instance path) (child_step instance valid path lt) children rest (omega (arith, few, few_choices instance valid path lt)) h.each h.ascending

-- numbers in three parts, and no field behind them
pub three_numbers : (a b c : List ℕ) → map decimal ((a ++ b) ++ c) ≡ map decimal a ++ (map decimal b ++ (map decimal c ++ []))
three_numbers a b c = sym (append-nil (map decimal ((a ++ b) ++ c))) ∙ split_numbers (a ++ b) c [] ∙ split_numbers a b (map decimal c ++ [])

-- fields that are a line's
abbrev pub IsLineOf : Instance → List (List ℕ) → Line → Type 0
IsLineOf instance fields line = (fields ≡ certificate_fields line) × IsLine instance line

count_takes : (instance : Instance) → IsInstance instance → (fields : List (List ℕ)) (line : Line) → count_line instance fields ≡ Ok line → IsLineOf instance (codes "C" ∷ fields) line
unfolding count_line
count_takes instance valid fields line e =
    let a = bind_ok (tag_at instance fields) (λ tag. list_at (literal_at instance) tag.1 >>= λ lits. list_at cite_at lits.1 >>= λ cites. ended cites.1 >>= λ end. Ok (record { tag = tag.0; lits = lits.0; rule = Count cites.0 })) line e in
    let b = bind_ok (list_at (literal_at instance) a.0.1) (λ lits. list_at cite_at lits.1 >>= λ cites. ended cites.1 >>= λ end. Ok (record { tag = a.0.0; lits = lits.0; rule = Count cites.0 })) line a.2 in
    let c = bind_ok (list_at cite_at b.0.1) (λ cites. ended cites.1 >>= λ end. Ok (record { tag = a.0.0; lits = b.0.0; rule = Count cites.0 })) line b.2 in
    let d = bind_ok (ended c.0.1) (λ end. Ok (record { tag = a.0.0; lits = b.0.0; rule = Count c.0.0 })) line c.2 in
    let tag = tag_takes instance fields a.0 a.1 in
    let lits = literals_take instance valid a.0.1 b.0 b.1 in
    let cites = cites_take b.0.1 c.0 c.1 in
    let end = ended_takes c.0.1 d.0 d.1 in
    let made : Line = record { tag = a.0.0; lits = b.0.0; rule = Count c.0.0 } in
    let front = takes_both fields a.0.1 b.0.1 (tag_numbers a.0.0) (list_numbers b.0.0) tag.0 lits.0 in
    let whole : Takes fields ((tag_numbers a.0.0 ++ list_numbers b.0.0) ++ (length c.0.0 ∷ c.0.0)) c.0.1 = takes_both fields b.0.1 c.0.1 (tag_numbers a.0.0 ++ list_numbers b.0.0) (length c.0.0 ∷ c.0.0) front cites.0 in
    let numbers : List ℕ = (tag_numbers a.0.0 ++ list_numbers b.0.0) ++ (length c.0.0 ∷ c.0.0) in
    let text : fields ≡ map decimal numbers = whole ∙ ap (λ (t : List (List ℕ)). map decimal numbers ++ t) end ∙ append-nil (map decimal numbers) in
    subst (IsLineOf instance (codes "C" ∷ fields)) (ok_is {E = CertCause} made line d.2) (ap (λ (t : List (List ℕ)). codes "C" ∷ t) text, record { tag = tag.1; lits = lits.1; rule = cites.1 })

branch_takes : (instance : Instance) → IsInstance instance → (fields : List (List ℕ)) (line : Line) → branch_line instance fields ≡ Ok line → IsLineOf instance (codes "B" ∷ fields) line
unfolding branch_line
branch_takes instance valid fields line e =
    let a = bind_ok (tag_at instance fields) (λ tag. list_at (literal_at instance) tag.1 >>= λ lits. position_at instance lits.1 >>= λ path. list_at (child_at instance path.0) path.1 >>= λ children. ended children.1 >>= λ end. Ok (record { tag = tag.0; lits = lits.0; rule = Branch path.0 children.0 })) line e in
    let b = bind_ok (list_at (literal_at instance) a.0.1) (λ lits. position_at instance lits.1 >>= λ path. list_at (child_at instance path.0) path.1 >>= λ children. ended children.1 >>= λ end. Ok (record { tag = a.0.0; lits = lits.0; rule = Branch path.0 children.0 })) line a.2 in
    let p = bind_ok (position_at instance b.0.1) (λ path. list_at (child_at instance path.0) path.1 >>= λ children. ended children.1 >>= λ end. Ok (record { tag = a.0.0; lits = b.0.0; rule = Branch path.0 children.0 })) line b.2 in
    let c = bind_ok (list_at (child_at instance p.0.0) p.0.1) (λ children. ended children.1 >>= λ end. Ok (record { tag = a.0.0; lits = b.0.0; rule = Branch p.0.0 children.0 })) line p.2 in
    let d = bind_ok (ended c.0.1) (λ end. Ok (record { tag = a.0.0; lits = b.0.0; rule = Branch p.0.0 c.0.0 })) line c.2 in
    let tag = tag_takes instance fields a.0 a.1 in
    let lits = literals_take instance valid a.0.1 b.0 b.1 in
    let path = position_takes instance b.0.1 p.0 p.1 in
    let children = children_take instance valid p.0.0 path.1 p.0.1 c.0 c.1 in
    let end = ended_takes c.0.1 d.0 d.1 in
    let made : Line = record { tag = a.0.0; lits = b.0.0; rule = Branch p.0.0 c.0.0 } in
    let behind : List ℕ = length c.0.0 ∷ flat_map child_numbers c.0.0 in
    let front = takes_both fields a.0.1 b.0.1 (tag_numbers a.0.0) (list_numbers b.0.0) tag.0 lits.0 in
    let rule : Takes b.0.1 (p.0.0 ∷ behind) c.0.1 = takes_both b.0.1 p.0.1 c.0.1 (p.0.0 ∷ []) behind path.0 children.0 in
    let numbers : List ℕ = (tag_numbers a.0.0 ++ list_numbers b.0.0) ++ (p.0.0 ∷ behind) in
    let whole : Takes fields numbers c.0.1 = takes_both fields b.0.1 c.0.1 (tag_numbers a.0.0 ++ list_numbers b.0.0) (p.0.0 ∷ behind) front rule in
    let text : fields ≡ map decimal numbers = whole ∙ ap (λ (t : List (List ℕ)). map decimal numbers ++ t) end ∙ append-nil (map decimal numbers) in
    subst (IsLineOf instance (codes "B" ∷ fields)) (ok_is {E = CertCause} made line d.2) (ap (λ (t : List (List ℕ)). codes "B" ∷ t) text, record { tag = tag.1; lits = lits.1; rule = (path.1, children.1) })

-- fields that are a Delete line's
abbrev IsDeleteOf : List (List ℕ) → Line → Type 0
IsDeleteOf fields line = (fields ≡ certificate_fields line) × IsDelete line

delete_takes : (fields : List (List ℕ)) (line : Line) → delete_line fields ≡ Ok line → IsDeleteOf (codes "D" ∷ fields) line
unfolding delete_line
delete_takes fields line e =
    let a = bind_ok (list_at cite_at fields) (λ cites. ended cites.1 >>= λ end. Ok (record { tag = record { code = 0; of_tag = refl }; lits = []; rule = Delete cites.0 })) line e in
    let b = bind_ok (ended a.0.1) (λ end. Ok (record { tag = record { code = 0; of_tag = refl }; lits = []; rule = Delete a.0.0 })) line a.2 in
    let cites = cites_take fields a.0 a.1 in
    let end = ended_takes a.0.1 b.0 b.1 in
    let made : Line = record { tag = record { code = 0; of_tag = refl }; lits = []; rule = Delete a.0.0 } in
    let numbers : List ℕ = length a.0.0 ∷ a.0.0 in
    let text : fields ≡ map decimal numbers = cites.0 ∙ ap (λ (t : List (List ℕ)). map decimal numbers ++ t) end ∙ append-nil (map decimal numbers) in
    subst (IsDeleteOf (codes "D" ∷ fields)) (ok_is {E = CertCause} made line b.2) (ap (λ (t : List (List ℕ)). codes "D" ∷ t) text, record { tag = refl; lits = refl; cites = a.0.0; rule = refl; cites_are = cites.1 })

-- what a line of a certificate says
abbrev pub IsFound : ℕ → Instance → List (List ℕ) → Option Line → Type 0
IsFound version instance fields None = fields ≡ codes "END" ∷ []
IsFound version instance fields (Some line) = (fields ≡ certificate_fields line) × IsLineIn version instance line

-- a line that was taken by its kind
by_kind : (version : ℕ) (instance : Instance) (word kind : List ℕ) (rest : List (List ℕ)) (read : Result Line CertCause) (found : Option Line) → bytes_eq word kind ≡ true → read >>= (λ line. Ok (Some line)) ≡ Ok found
    → ((line : Line) → read ≡ Ok line → IsFound version instance (kind ∷ rest) (Some line)) → IsFound version instance (word ∷ rest) found
by_kind version instance word kind rest read found same e takes =
    let a = bind_ok read (λ line. Ok (Some line)) found e in
    rw (is_word word kind same) (subst (IsFound version instance (kind ∷ rest)) (ok_is {E = CertCause} (Some a.0) found a.2) (takes a.0 a.1))

-- the kinds, from the last one on
abbrev delete_kind : ℕ → List ℕ → List (List ℕ) → Result (Option Line) CertCause
delete_kind version word rest = cond (eqb version 2 && bytes_eq word (codes "D")) (delete_line rest >>= λ line. Ok (Some line)) (Err BadKind)

abbrev branch_kind : ℕ → Instance → List ℕ → List (List ℕ) → Result (Option Line) CertCause
branch_kind version instance word rest = cond (bytes_eq word (codes "B")) (branch_line instance rest >>= λ line. Ok (Some line)) (delete_kind version word rest)

abbrev count_kind : ℕ → Instance → List ℕ → List (List ℕ) → Result (Option Line) CertCause
count_kind version instance word rest = cond (bytes_eq word (codes "C")) (count_line instance rest >>= λ line. Ok (Some line)) (branch_kind version instance word rest)

delete_kind_takes : (version : ℕ) (instance : Instance) (word : List ℕ) (rest : List (List ℕ)) (found : Option Line) → delete_kind version word rest ≡ Ok found → IsFound version instance (word ∷ rest) found
delete_kind_takes version instance word rest found e =
    elim (chosen (eqb version 2 && bytes_eq word (codes "D")) (delete_line rest >>= λ line. Ok (Some line)) (Err BadKind) (Ok found) e) [
      | inl h ↦
          let both = and_parts (eqb version 2) (bytes_eq word (codes "D")) h.0 in
          by_kind version instance word (codes "D") rest (delete_line rest) found both.1 h.1 (λ line e. let taken = delete_takes rest line e in (taken.0, inr (eqb-true version 2 both.0, taken.1)))
      | inr h ↦ absurd (refused found h.1)
    ]
  where
    refused : (found : Option Line) → ◌≡◌ {A = Result (Option Line) CertCause} (Err BadKind) (Ok found) → ⊥
    refused found e = cc

branch_kind_takes : (version : ℕ) (instance : Instance) → IsInstance instance → (word : List ℕ) (rest : List (List ℕ)) (found : Option Line) → branch_kind version instance word rest ≡ Ok found → IsFound version instance (word ∷ rest) found
branch_kind_takes version instance valid word rest found e =
    elim (chosen (bytes_eq word (codes "B")) (branch_line instance rest >>= λ line. Ok (Some line)) (delete_kind version word rest) (Ok found) e) [
      | inl h ↦ by_kind version instance word (codes "B") rest (branch_line instance rest) found h.0 h.1 (λ line e. let taken = branch_takes instance valid rest line e in (taken.0, inl taken.1))
      | inr h ↦ delete_kind_takes version instance word rest found h.1
    ]

count_kind_takes : (version : ℕ) (instance : Instance) → IsInstance instance → (word : List ℕ) (rest : List (List ℕ)) (found : Option Line) → count_kind version instance word rest ≡ Ok found → IsFound version instance (word ∷ rest) found
count_kind_takes version instance valid word rest found e =
    elim (chosen (bytes_eq word (codes "C")) (count_line instance rest >>= λ line. Ok (Some line)) (branch_kind version instance word rest) (Ok found) e) [
      | inl h ↦ by_kind version instance word (codes "C") rest (count_line instance rest) found h.0 h.1 (λ line e. let taken = count_takes instance valid rest line e in (taken.0, inl taken.1))
      | inr h ↦ branch_kind_takes version instance valid word rest found h.1
    ]

pub certificate_takes : (version : ℕ) (instance : Instance) → IsInstance instance → (fields : List (List ℕ)) (found : Option Line) → certificate_line version instance fields ≡ Ok found → IsFound version instance fields found
unfolding certificate_line
certificate_takes version instance valid fields found e =
    let a = bind_ok (field_at fields) (λ word. cond (bytes_eq word.0 (codes "END")) (ended word.1 >>= λ end. Ok None) (count_kind version instance word.0 word.1)) found e in
    rw (field_takes fields a.0 a.1) (elim (chosen (bytes_eq a.0.0 (codes "END")) (ended a.0.1 >>= λ end. Ok None) (count_kind version instance a.0.0 a.0.1) (Ok found) a.2) [
      | inl h ↦
          let b = bind_ok (ended a.0.1) (λ end. Ok None) found h.1 in
          let none : Option Line = None in
          let taken : IsFound version instance (a.0.0 ∷ a.0.1) none = rw (is_word a.0.0 (codes "END") h.0, ended_takes a.0.1 b.0 b.1) refl in
          subst (IsFound version instance (a.0.0 ∷ a.0.1)) (ok_is {E = CertCause} none found b.2) taken
      | inr h ↦ count_kind_takes version instance valid a.0.0 a.0.1 found h.1
    ])

count_again : (instance : Instance) → IsInstance instance → (line : Line) (cites : List ℕ) → IsTagFor instance line.tag → AreLiterals instance line.lits → AreCites cites → line.rule ≡ Count cites
    → count_line instance (map decimal ((tag_numbers line.tag ++ list_numbers line.lits) ++ (length cites ∷ cites))) ≡ Ok line
unfolding count_line
count_again instance valid line cites tag lits few rule =
    let last : List (List ℕ) = map decimal (length cites ∷ cites) ++ [] in
    let middle : List (List ℕ) = map decimal (list_numbers line.lits) ++ last in
    ap (count_line instance) (three_numbers (tag_numbers line.tag) (list_numbers line.lits) (length cites ∷ cites))
    ∙ rw (tag_again instance line.tag middle tag, literals_again instance valid line.lits last lits, cites_again cites [] few) (ap (λ (r : Rule). Ok (record { tag = line.tag; lits = line.lits; rule = r })) (sym rule))

branch_again : (instance : Instance) → IsInstance instance → (line : Line) (path : ℕ) (children : List Child) → IsTagFor instance line.tag → AreLiterals instance line.lits → path < length instance.paths → AreChildren instance path children → line.rule ≡ Branch path children
    → branch_line instance (map decimal ((tag_numbers line.tag ++ list_numbers line.lits) ++ (path ∷ length children ∷ flat_map child_numbers children))) ≡ Ok line
unfolding branch_line
branch_again instance valid line path children tag lits lt all rule =
    let behind : List (List ℕ) = map decimal (length children ∷ flat_map child_numbers children) ++ [] in
    let last : List (List ℕ) = decimal path ∷ behind in
    let middle : List (List ℕ) = map decimal (list_numbers line.lits) ++ last in
    ap (branch_line instance) (three_numbers (tag_numbers line.tag) (list_numbers line.lits) (path ∷ length children ∷ flat_map child_numbers children))
    ∙ rw (tag_again instance line.tag middle tag, literals_again instance valid line.lits last lits, position_again instance valid path behind lt, children_again instance valid path lt children [] all) (ap (λ (r : Rule). Ok (record { tag = line.tag; lits = line.lits; rule = r })) (sym rule))

-- a Delete line is its numbers
delete_made : (line : Line) (cites : List ℕ) → line.tag.code ≡ 0 → line.lits ≡ [] → line.rule ≡ Delete cites → record { tag = record { code = 0; of_tag = refl }; lits = []; rule = Delete cites } ≡ line
delete_made line cites tag lits rule =
    ap (λ (t : Tag). record { tag = t; lits = []; rule = Delete cites }) (same_tag (record { code = 0; of_tag = refl }) line.tag (sym tag))
    ∙ ap (λ (ls : List Literal). record { tag = line.tag; lits = ls; rule = Delete cites }) (sym lits)
    ∙ ap (λ (r : Rule). record { tag = line.tag; lits = line.lits; rule = r }) (sym rule)

pub delete_read : (fields rest : List (List ℕ)) (line : Line) (cites : List ℕ) → list_at cite_at fields ≡ Ok (cites, rest) → ended rest ≡ Ok tt → line.tag.code ≡ 0 → line.lits ≡ [] → line.rule ≡ Delete cites → delete_line fields ≡ Ok line
unfolding delete_line
delete_read fields rest line cites listed end tag lits rule = rw (listed, end) (ap (λ (l : Line). Ok l) (delete_made line cites tag lits rule))

delete_again : (line : Line) → (h : IsDelete line) → delete_line (map decimal (length h.cites ∷ h.cites)) ≡ Ok line
delete_again line h =
    let numbers : List (List ℕ) = map decimal (length h.cites ∷ h.cites) in
    ap delete_line (sym (append-nil numbers)) ∙ delete_read (numbers ++ []) [] line h.cites (cites_again h.cites [] h.cites_are) refl h.tag h.lits h.rule

rule_again : (version : ℕ) (instance : Instance) → IsInstance instance → (line : Line) (rule : Rule) → IsTagFor instance line.tag → AreLiterals instance line.lits → IsRule instance rule → line.rule ≡ rule
    → certificate_line version instance (rule_word rule ∷ map decimal (front_numbers line rule ++ rule_numbers rule)) ≡ Ok (Some line)
unfolding certificate_line
rule_again version instance valid line (Count cites) tag lits h e = ap (λ (r : Result Line CertCause). r >>= λ l. Ok (Some l)) (count_again instance valid line cites tag lits h e)
rule_again version instance valid line (Branch path children) tag lits h e = ap (λ (r : Result Line CertCause). r >>= λ l. Ok (Some l)) (branch_again instance valid line path children tag lits h.0 h.1 e)
rule_again version instance valid line (Delete cites) tag lits h e = absurd h

-- a Delete line of version 2
entry_again : (instance : Instance) (line : Line) (h : IsDelete line) (rule : Rule) → rule ≡ Delete h.cites → certificate_line 2 instance (rule_word rule ∷ map decimal (front_numbers line rule ++ rule_numbers rule)) ≡ Ok (Some line)
unfolding certificate_line
entry_again instance line h rule e = rw e (ap (λ (r : Result Line CertCause). r >>= λ l. Ok (Some l)) (delete_again line h))

pub certificate_again : (version : ℕ) (instance : Instance) → IsInstance instance → (line : Line) → IsLineIn version instance line → certificate_line version instance (certificate_fields line) ≡ Ok (Some line)
certificate_again version instance valid line (inl h) = rule_again version instance valid line line.rule h.tag h.lits h.rule refl
certificate_again version instance valid line (inr h) = rw h.0 (entry_again instance line h.1 line.rule h.1.rule)

pub certificate_ends : (version : ℕ) (instance : Instance) → certificate_line version instance (codes "END" ∷ []) ≡ Ok None
unfolding certificate_line
certificate_ends version instance = refl
