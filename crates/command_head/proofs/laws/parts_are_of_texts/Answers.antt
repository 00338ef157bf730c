use Rattle.command_head.proofs.JoinedParts.{reg_text, named_text}
use Rattle.command_head.proofs.JoinedHeads.{promote_text, image_text, convert_text, combine_text, languages_text, language_text, name_text, test_text}
use Rattle.command_head.proofs.laws.parts_are_of_texts.Goals as goal

pub returns-clause-reg : goal.returns-clause-reg
returns-clause-reg c parts head derives = reg_text parts head derives

pub returns-clause-named : goal.returns-clause-named
returns-clause-named c word named parts head derives = named_text word parts head named derives

pub returns-clause-promote : goal.returns-clause-promote
returns-clause-promote c parts head derives = promote_text parts head derives

pub returns-clause-image : goal.returns-clause-image
returns-clause-image c word named parts head derives = image_text word parts head named derives

pub returns-clause-convert : goal.returns-clause-convert
returns-clause-convert c parts head derives = convert_text parts head derives

pub returns-clause-combine : goal.returns-clause-combine
returns-clause-combine c parts head derives = combine_text parts head derives

pub returns-clause-languages : goal.returns-clause-languages
returns-clause-languages c word named parts head derives = languages_text word parts head named derives

pub returns-clause-language : goal.returns-clause-language
returns-clause-language c word named parts head derives = language_text word parts head named derives

pub returns-clause-name : goal.returns-clause-name
returns-clause-name c word named parts name derives = name_text word parts name named derives

pub returns-clause-test : goal.returns-clause-test
returns-clause-test c parts head derives = test_text parts head derives
