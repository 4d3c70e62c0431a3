mod Quarters
