-- Tags, as values, that are those of an instance.
use Rattle.fapp_model.specs.declared.instance.Instance.{Instance}
use Rattle.fapp_model.specs.declared.tag.Tag.{Tag}
use Rattle.fapp_model.specs.Tags.{IsTagOf, triple_from}

-- what every call asks that takes a tag and an instance, or an object made for one
abbrev pub IsTagFor : Instance → Tag → Type 0
IsTagFor instance t = IsTagOf instance (triple_from t.code)
