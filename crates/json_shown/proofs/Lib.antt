mod ExactTexts
