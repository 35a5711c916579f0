use Rattle.bank_json.specs.ImageJson.{data_of_image, image_of_data}
use Rattle.bank_json.proofs.ImageLaws.{images_again}
use Rattle.bank_json.proofs.Texts.{comes_back}
use Rattle.bank_json.proofs.laws.images_come_back.Goals as goal

pub returns : goal.returns
returns c = λ bytes text are h. comes_back image_of_data (data_of_image bytes) text bytes h (λ d written. images_again bytes d are written)
