-- What a reader of a text has still to read.
use Rattle.cert_lines.specs.declared.text.Text.{Text}
use Rattle.cert_lines.specs.Reading.{Rest, parts_of}

abbrev pub text_left : Text → Rest
text_left text = (text.line, parts_of text.rest.now)
