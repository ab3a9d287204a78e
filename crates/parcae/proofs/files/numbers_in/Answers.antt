use Rattle.parcae.specs.Files.{input_token, input_count}
use Rattle.parcae.proofs.Loading.{token_not, count_not}
use Rattle.parcae.proofs.files.numbers_in.Goals as goal

pub returns-in-Err-Token-clause-refused : goal.returns-in-Err-Token-clause-refused
returns-in-Err-Token-clause-refused c =
    let told = rw (c.in-Err-Token.field-0-is) at c.in-Err-Token.ensures in
    input_token c.in-Err-Token.at (told.refused (token_not c.in-Err-Token.at))

pub returns-in-Err-Count-clause-refused : goal.returns-in-Err-Count-clause-refused
returns-in-Err-Count-clause-refused c =
    let told = rw (c.in-Err-Count.field-0-is) at c.in-Err-Count.ensures in
    input_count (told.refused count_not)
