use Rattle.std.proofs.Common.{◌∙◌, Some, ap, sym}
use Rattle.clap.specs.Matches.{found_of, matched_of}
use Rattle.clap.specs.declared.parser.matches.ValueSource.TheVariants.{DefaultValue, CommandLine}
use Rattle.clap.proofs.TakesLemmas.{present_row}
use Rattle.parcae.proofs.Found.{by_known, by_none}
use Rattle.parcae.proofs.words.is_given.Goals as goal

pub returns-in-Some-DefaultValue : goal.returns-in-Some-DefaultValue
returns-in-Some-DefaultValue c =
    let found = found_of c.args.found.now in
    let source = sym c.value_source.ensures ∙ c.in-Some-DefaultValue.is ∙ ap Some c.in-Some-DefaultValue.field-0-is in
    sym (by_known (matched_of found c.args.id.now) DefaultValue source) ∙ present_row found c.args.id.now

pub returns-in-Some-CommandLine : goal.returns-in-Some-CommandLine
returns-in-Some-CommandLine c =
    let found = found_of c.args.found.now in
    let source = sym c.value_source.ensures ∙ c.in-Some-CommandLine.is ∙ ap Some c.in-Some-CommandLine.field-0-is in
    sym (by_known (matched_of found c.args.id.now) CommandLine source) ∙ present_row found c.args.id.now

pub returns-in-None : goal.returns-in-None
returns-in-None c =
    let found = found_of c.args.found.now in
    let source = sym c.value_source.ensures ∙ c.in-None.is in
    c.contains_id.ensures ∙ sym (by_none (matched_of found c.args.id.now) source) ∙ present_row found c.args.id.now
