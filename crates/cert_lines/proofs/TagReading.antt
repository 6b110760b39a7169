-- A tag that was read.
use Rattle.std.proofs.Common.{◌≡◌, ℕ, Bool, true, false, List, Result, Ok, refl, sym, ap, ◌∙◌}
use Rattle.fapp_model.specs.declared.tag.Tag.{Tag}
use Rattle.fapp_model.specs.declared.triple.Triple.{Triple}
use Rattle.fapp_model.specs.declared.instance.Instance.{Instance}
use Rattle.fapp_model.specs.Levels.{levels_of}
use Rattle.fapp_model.proofs.LevelNumbers.{levels-few}
use Rattle.fapp_model.specs.Tags.{code_of, is_tag, is_code}
use Rattle.cert_lines.specs.declared.fault.CertCause.{CertCause}
use Rattle.cert_lines.specs.declared.fault.CertCause.TheVariants.{BadTag}
use Rattle.cert_lines.specs.FieldReading.{triple_at, tag_of_code, tag_at}
use Rattle.fapp_text.specs.Reading.{◌>>=◌, allowed}
use Rattle.cert_lines.proofs.Codes.{is_tag-code}
use Rattle.cert_lines.proofs.TagLemmas.{same_tag}

done : {A : Type 0} → A → Result A CertCause
done x = Ok x

tag_of_code_ok : (tag : Tag) (code : ℕ) (test : Bool) (h : is_code code ≡ test) → test ≡ true → tag.code ≡ code → tag_of_code code test h ≡ Ok tag
unfolding done
tag_of_code_ok tag code true h g e = ap done (same_tag (record { code = code; of_tag = h }) tag (sym e))
tag_of_code_ok tag code false h g e = absurd cc

-- what follows the test of a triple
abbrev tested : Triple → List (List ℕ) → Bool → Result (Tag × List (List ℕ)) CertCause
tested t rest test = allowed test BadTag t >>= λ u. tag_of_code (code_of u) (is_code (code_of u)) refl >>= λ tag. Ok (tag, rest)

pub tag_read : (instance : Instance) (fields rest : List (List ℕ)) (t : Triple) (tag : Tag) → triple_at fields ≡ Ok (t, rest) → is_tag (levels_of instance) t ≡ true → tag.code ≡ code_of t → tag_at instance fields ≡ Ok (tag, rest)
unfolding tag_at
tag_read instance fields rest t tag e h same =
    ap (λ (r : Result (Triple × List (List ℕ)) CertCause). r >>= λ found. tested found.0 found.1 (is_tag (levels_of instance) found.0)) e
    ∙ ap (tested t rest) h
    ∙ ap (λ (r : Result Tag CertCause). r >>= λ found. Ok (found, rest)) (tag_of_code_ok tag (code_of t) (is_code (code_of t)) refl (is_tag-code (levels_of instance) t (levels-few instance).1 h) same)
